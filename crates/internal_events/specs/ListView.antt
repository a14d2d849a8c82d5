-- What contracts see of a `HeadList`.
use Rattle.std.specs.Prelude.{List, filter_map}
use Rattle.internal_events.specs.declared.head_list.Head.{Head}
use Rattle.internal_events.specs.declared.head_list.HeadList.TheInside.{Inside}

-- those that are there, in their order
abbrev pub list_of : Inside → List Head
list_of l = filter_map (λ head. head) l.heads

-- What a `Head` tells.
use Rattle.chain_spec.specs.Heads.{Head as Told}
use Rattle.internal_events.specs.declared.head_list.Head.{Head}

-- the internal event that a `Head` is
abbrev pub head_told : Head → Told
head_told head = record { event = head.event; count = head.count }

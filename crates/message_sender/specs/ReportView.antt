-- What contracts see of a `Report`.
use Rattle.std.specs.Prelude.{option_copied}
use Rattle.chain_spec.specs.Items.{Item}
use Rattle.message_sender.specs.declared.report.Report.TheInside.{Inside}

-- the item that the fields hold
abbrev pub item_of : Inside → Item
item_of r = record { event = r.event.0; tick = r.tick; count = r.count; stamp = r.stamp; context = option_copied r.context }

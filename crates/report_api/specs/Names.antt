-- The types that the definitions of this crate are about.
use Rattle.ids_types.specs.declared.entry.Act.{Act as ActOver}
use Rattle.buffer_classes.specs.Buffers.{Buffer}
use Rattle.report_queue.specs.declared.cargo.Item.{Item}
use Rattle.permit_ring.specs.declared.memo.Outcome.{Outcome as OutcomeOf}
use Rattle.permit_ring.specs.declared.memo.KeeperMemo.{KeeperMemo}
use Rattle.permit_ring.specs.declared.memo.SeatMemo.{SeatMemo}
pub use Rattle.ids_types.specs.declared.entry.Act.TheVariants.{Report, State, SetMode}
pub use Rattle.ids_types.specs.declared.entry.Carried.{Carried}
pub use Rattle.ids_types.specs.declared.entry.Carried.TheVariants.{Absent, Kept, Missing}
pub use Rattle.ids_types.specs.declared.names.EventIndex.{EventIndex}
pub use Rattle.ids_types.specs.declared.names.Stamp.{Stamp}
pub use Rattle.permit_ring.specs.declared.memo.Outcome.TheVariants.{Lost, Got}
use Rattle.std.specs.declared.boxed.Box.{Box}
use Rattle.std.specs.declared.alloc.Global.{Global}

-- an act whose context lies in a buffer
abbrev pub Act : Type 0
Act = ActOver Buffer

-- an act in a box of its own, as the positions of the report ring hold it
abbrev pub BoxedAct : Type 0
BoxedAct = Box Act Global

-- what became of a call: it was lost, or its item stands under a ticket
abbrev pub Outcome : Type 0
Outcome = OutcomeOf (Item Act)

-- what a pass knows of the report ring: its number, its calls and what became of each, the losses that it marked, and its moves
abbrev pub PassMemo : Type 0
PassMemo = SeatMemo (Item Act)

-- what the desk knows of it: what was taken and swept, each pass as it came back, and its moves
abbrev pub DeskMemo : Type 0
DeskMemo = KeeperMemo (Item Act)

-- A seat may be seen by several threads, as it may go from one to another: whoever sees it has a part of the whole.
use Rattle.trace_replay.proofs.Names.{IsSend, IsSync, recorded_sync, sendable, shr_sync, struct_sync, whole-keyless}
use Rattle.std.proofs.Crossing.{Box-send, Box-sync}
use denote.RattleType.{RattleType}
use denote.Ref.{NamedLft}
use denote.Struct.Declared.{shape}
use Rattle.atomic_table.specs.contracts.shared.Seat as seat
use Rattle.atomic_table.proofs.shared.Seat.TheSendSync as seats
use Rattle.permit_ring.specs.contracts.seat.Seat as permit
use Rattle.permit_ring.proofs.memo.Slot.TheSendSync as slots
use Rattle.report_queue.specs.contracts.seat.QueueSeat as queue
use Rattle.report_queue.proofs.cargo.Item.TheSendSync as items
use Rattle.buffer_classes.specs.contracts.seat.ClaimSeat as claims
use Rattle.buffer_classes.proofs.buffer.CtxBuf.TheSendSync as bufs
use Rattle.ids_types.proofs.entry.Act.TheSendSync as acts
use Rattle.report_api.specs.contracts.pass.Pass as pass
use Rattle.std.proofs.vec.Vec.TheSendSync as vecs
use Rattle.counted_slot.proofs.Counted.TheSendSync as slot
use Rattle.trace_replay.specs.contracts.caller.Caller as caller
use Rattle.trace_replay.specs.contracts.place.Hand as hand
use Rattle.trace_replay.specs.contracts.place.Place as place
use Rattle.trace_replay.specs.contracts.stage.Stage as stage
use Rattle.trace_replay.proofs.place.Hand.TheSendSync as hands
use Rattle.std.proofs.alloc.Global.TheSendSync as heap
use Rattle.std.proofs.sync.atomic.AtomicBool.TheSendSync as flag
use Rattle.report_api.proofs.shared.Shared.TheSendSync as shared
use Rattle.trace_text.proofs.trace.Trace.TheSendSync as trace

seat_sync : (S V : RattleType) → IsSend S → IsSync (seat.the_row S V)
seat_sync S V s = record { shared = λ d b o κ q. whole-keyless _ _ (seats.the_send S V s).owned q d b o }

module _ (F O X T N : RattleType) (o : IsSend O) (x : IsSend X) where
  permit_field : IsSync (permit.the_field F O X T N).row
  permit_field = struct_sync (shape (permit.the_type F O X T N))
      (seat_sync _ _ (slots.the_send O X o x), (search sendable, (search sendable, (search sendable depth 12, tt))))

  permit_sync : IsSync (permit.the_row F O X T N)
  permit_sync = recorded_sync (permit.the_field F O X T N).row _ _ (permit.the_type F O X T N).to_one permit_field

queue_field : (P L T N : RattleType) → IsSend L → IsSync (queue.the_field P L T N).row
queue_field P L T N l = struct_sync (shape (queue.the_type P L T N)) (search (sendable, permit_field, items.the_send) depth 12, tt)

pass_field : IsSync (pass.the_field).row
pass_field = struct_sync (shape pass.the_type) (
  search (sendable, queue_field, Box-send, acts.the_send, bufs.the_send) depth 12,
  (
    struct_sync (shape claims.the_type) (search (sendable, vecs.the_sync, permit_sync, bufs.the_send, heap.the_sync) depth 12, (search sendable, (search sendable, tt))),
    (search (sendable, Box-sync, acts.the_sync, bufs.the_sync) depth 12, tt),
  ),
)

hand_sync : IsSync hand.the_row
hand_sync = recorded_sync (hand.the_field).row _ _ (hand.the_type).to_one (struct_sync (shape hand.the_type)
    (struct_sync (shape caller.the_type) (pass_field, (search (sendable, vecs.the_sync, heap.the_sync) depth 12, tt)), (search sendable, (search sendable, tt))))

-- the places of callers may be seen by their threads
place_sync : IsSync place.the_row
place_sync = recorded_sync (place.the_field).row _ _ (place.the_type).to_one
    (struct_sync (shape place.the_type) (search (sendable, slot.the_sync, hand_sync, hands.the_send) depth 12, tt))

-- and so may all that they share
module _ (l : NamedLft) (G : RattleType) (g : IsSync G) where
  pub stage_sync : IsSync (stage.the_row l G)
  stage_sync = recorded_sync (stage.the_field l G).row _ _ (stage.the_type l G).to_one (struct_sync (shape (stage.the_type l G)) (
    shr_sync _ _ _ shared.the_sync,
    (search sendable, (shr_sync _ _ _ trace.the_sync, (shr_sync _ _ _ g, (search (sendable, vecs.the_sync, heap.the_sync, place_sync) depth 12, (shr_sync _ _ _ flag.the_sync, tt))))),
  ))

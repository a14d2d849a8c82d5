use Rattle.buffer_classes.proofs.Names.{◌≡◌, ◌+◌, ◌-◌, ◌^◌, List, length, reaps_all, IsGiverOf, filled_count, giver_memo, vacant_count}
use Rattle.buffer_classes.proofs.giver.Giver.reap_all.Given as goal

abbrev pub invariant-loop-unready : goal.invariant-loop-unready
invariant-loop-unready l =
    IsGiverOf l.ring l.self
    × ((notes : List (Unit {0})) × record {
      run : giver_memo l.self ≡ reaps_all notes (giver_memo l.initial.self);
      vacant : vacant_count l.self ≡ vacant_count l.initial.self + length notes;
      filled_is : filled_count l.self ≡ filled_count l.initial.self;
      late_is : l.self.late ≡ l.initial.self.late;
      number_is : l.self.number ≡ l.initial.self.number;
    })

abbrev pub decreases-loop-unready : goal.decreases-loop-unready
decreases-loop-unready l = 2 ^ 45 - length (giver_memo l.self).notes

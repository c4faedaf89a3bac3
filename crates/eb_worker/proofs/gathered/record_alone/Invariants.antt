use Rattle.std.proofs.Common.{◌≡◌, ℕ, ◌-◌, ◌≤◌, length, flat_map}
use Rattle.eb_claims.specs.Seats.{Known, Held, IsSeatOf}
use Rattle.std.proofs.Common.{List}
use Rattle.eb_worker.proofs.gathered.record_alone.Given as goal

-- no stop yet, and the lists of the items claimed so far
pub record SoFar {E : Type 0} (c : Known) (lists : ℕ → List E) (s : Held) (entries : List E) : Type 0 where
  pub of : IsSeatOf c s
  pub none_yet : s.view.stops ≡ 0
  pub share : s.view.share ≡ 1
  pub few : length s.view.list ≤ c.items
  pub entries_are : entries ≡ flat_map lists s.view.list

abbrev pub invariant-loop-item : goal.invariant-loop-item
invariant-loop-item g l = SoFar l.claims (g.R.Recorder.lists l.recorder) l.seat l.entries.items

abbrev pub decreases-loop-item : goal.decreases-loop-item
decreases-loop-item g l = l.claims.items - length l.seat.view.list

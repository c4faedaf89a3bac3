-- How many more lines a session may answer.
use Rattle.std.proofs.Common.{◌≡◌, ℕ, ◌+◌, ◌-◌, ◌^◌, ◌/◌, ◌<◌, ◌≤◌, arith}
use Rattle.eb_session.specs.Machine.{State}
use Rattle.eb_run.specs.Answering.{most_answers}

some_left : (used : ℕ) → 0 < (2 ^ 62 - 1 - used) / 65537 → used + 65536 < 2 ^ 62
some_left used some = omega arith

one_less : (old new : ℕ) → new ≤ old + 65537 → (2 ^ 62 - 1 - old) / 65537 ≤ (2 ^ 62 - 1 - new) / 65537 + 1
one_less old new within = omega arith

pub generation_fits : (state : State) → 0 < most_answers state → state.generation < 2 ^ 62
unfolding most_answers
generation_fits state some = omega (arith, some_left (state.generation + state.made) some)

pub made_fits : (state : State) → 0 < most_answers state → state.made + 65536 < 2 ^ 62
unfolding most_answers
made_fits state some = omega (arith, some_left (state.generation + state.made) some)

pub left_fits : (old new : State) → new.generation ≤ old.generation + 1 → new.made ≤ old.made + 65536 → most_answers old ≤ most_answers new + 1
unfolding most_answers
left_fits old new generation made = one_less (old.generation + old.made) (new.generation + new.made) (omega arith)

-- a session that has just been opened may answer as many lines as a run takes
pub first_left : (state : State) (lines : ℕ) → lines ≤ 2 ^ 32 - 1 → state.generation ≡ 0 → state.made ≡ 0 → lines ≤ most_answers state
unfolding most_answers
first_left state lines few generation made = omega arith

-- What is left after a call is what stands behind the bytes that were copied.
use Rattle.std.proofs.Common.{refl, arith, ◌≡◌, ◌++◌, ◌+◌, ◌-◌, List, ℕ, length, take, drop, sym}
use Rattle.std.proofs.lemmas.List.{take-append-drop, length-drop, drop-drop, take_all}
use Rattle.std.proofs.lemmas.Grind.{common_steps}
use Rattle.eb_outside.proofs.mem_source.MemSourceSource.take.Goals as goal

rest_after : (bytes buffer : List ℕ) (at n : ℕ) → take n buffer ≡ take n (take (length bytes - at) (drop at bytes)) → drop at bytes ≡ take n buffer ++ drop (at + n) bytes
rest_after bytes buffer at n e = rw (e, ← drop-drop n at bytes, take_all (length bytes - at) (drop at bytes) (omega (arith, length-drop at bytes))) (sym (take-append-drop n (drop at bytes)))

pub returns-clause-bytes : goal.returns-clause-bytes
returns-clause-bytes c = (_, refl, record { front = rw (← c.self.view_is) (rest_after c.self.inside.bytes.items c.copy_front-count.new.into c.self.inside.at c.copy_front-count.result (rw c.deref.ensures.value at c.copy_front-count.ensures.front)); end = grind (arith, common_steps) })

-- Laws that a caller's loop over a sink, a source or a shelf cites.
use Rattle.std.proofs.Common.{◌≡◌, ℕ, ◌≤◌, List, [], ◌++◌, take, drop, refl, ap, append-nil, append_assoc, arith, sym, ◌∙◌}
use Rattle.std.proofs.lemmas.List.{take-append-drop}
use Rattle.std.specs.Prelude.{◌≢◌, Bool, true, false, cond, Option, Some, None, option_map, Ok, Err}
use Rattle.std.specs.Ordering.{nat_cmp, eq_by_cmp}
use Rattle.std.specs.Cmp.Lexicographic.{slice_cmp, nat_list_cmp_total, texts_ties, same_text}
use Rattle.std.specs.FinMap.{get, insert, get-insert, same_map, slice_cmp-IsAntisymmetric, nat_cmp-IsAntisymmetric}
use Rattle.std.proofs.lemmas.Cmp.{nat_list_eq_equiv}
use Rattle.eb_outside.specs.Causes.{Rose}
use Rattle.eb_outside.specs.Shelves.{Files, with_file, KeepsOthers}
use Rattle.eb_outside.specs.Streams.{appended, TakesKnown}

-- two pieces, one after the other, are one piece
pub appended-append : (held : Option (List ℕ)) (a b : List ℕ) → appended (appended held a) b ≡ appended held (a ++ b)
appended-append None a b = refl
appended-append (Some h) a b = ap Some (append_assoc h a b)

pub appended-nil : (held : Option (List ℕ)) → appended held [] ≡ held
appended-nil None = refl
appended-nil (Some h) = ap Some (append-nil h)

-- the front of a piece and then its rest are the piece
pub appended-take-drop : (held : Option (List ℕ)) (n : ℕ) (piece : List ℕ) → appended (appended held (take n piece)) (drop n piece) ≡ appended held piece
appended-take-drop held n piece = rw (appended-append held (take n piece) (drop n piece), take-append-drop n piece)

-- what was left began with what was taken, in the terms of options
pub TakesKnown-front : (E : Type 0) (old new : Option (List ℕ)) (n : ℕ) (buffer : List ℕ) → TakesKnown {E = E} old new (Ok n) buffer → old ≡ option_map (λ left. take n buffer ++ left) new
TakesKnown-front E None new n buffer e = rw e
TakesKnown-front E (Some old) new n buffer t = rw t.1 (ap Some t.2.front)

-- 0 comes at the end alone
pub TakesKnown-end : (E : Type 0) (old new : Option (List ℕ)) (buffer : List ℕ) → TakesKnown {E = E} old new (Ok 0) buffer → old ≡ option_map (λ _. []) old
TakesKnown-end E None new buffer e = refl
TakesKnown-end E (Some old) new buffer t = ap Some (t.2.end refl)

pub TakesKnown-err : (E : Type 0) (old new : Option (List ℕ)) (e : E) (buffer : List ℕ) → TakesKnown old new (Err e) buffer → new ≡ old
TakesKnown-err E None new e buffer t = t
TakesKnown-err E (Some old) new e buffer t = t

-- a count that rose has risen since any earlier moment, and at any later one
pub Rose-since : (before then now : ℕ) → before ≤ then → Rose then now → Rose before now
Rose-since before then now le rose = omega arith

pub Rose-until : (before then now : ℕ) → Rose before then → then ≤ now → Rose before now
Rose-until before then now rose le = omega arith

same : (t : Bool) (name : List ℕ) (files : Files) (bytes : List ℕ) → t ≡ true → cond t (Some bytes) (get files name) ≡ Some bytes
same true name files bytes e = refl
same false name files bytes e = cc

-- a file that was written has these bytes
pub get-written : (files : Files) (name bytes : List ℕ) → get (insert files name bytes) name ≡ Some bytes
get-written files name bytes =
    get-insert nat_list_cmp_total files name bytes name
    ∙ same (eq_by_cmp (slice_cmp nat_cmp) name name) name files bytes (sym (texts_ties name name) ∙ nat_list_eq_equiv.refl name)

apart : (t : Bool) (other : List ℕ) (files : Files) (bytes : List ℕ) → (t ≡ true → ⊥) → cond t (Some bytes) (get files other) ≡ get files other
apart true other files bytes ne = absurd (ne refl)
apart false other files bytes ne = refl

-- and every other has what it had
pub get-other : (files : Files) (name bytes other : List ℕ) → other ≢ name → get (insert files name bytes) other ≡ get files other
get-other files name bytes other ne =
    get-insert nat_list_cmp_total files name bytes other
    ∙ apart (eq_by_cmp (slice_cmp nat_cmp) other name) other files bytes (λ e. ne (same_text other name (sym (texts_ties other name ∙ e))))

hidden : {X : Type 0} (t : Bool) (a b : X) (rest : Option X) → cond t (Some b) (cond t (Some a) rest) ≡ cond t (Some b) rest
hidden true a b rest = refl
hidden false a b rest = refl

insert-insert : (files : Files) (name a b : List ℕ) → insert (insert files name a) name b ≡ insert files name b
insert-insert files name a b =
    same_map nat_list_cmp_total (slice_cmp-IsAntisymmetric nat_cmp-IsAntisymmetric) _ _ (λ q.
    get-insert nat_list_cmp_total _ name b q
    ∙ ap (cond (eq_by_cmp (slice_cmp nat_cmp) q name) (Some b)) (get-insert nat_list_cmp_total files name a q)
    ∙ hidden (eq_by_cmp (slice_cmp nat_cmp) q name) a b (get files q)
    ∙ sym (get-insert nat_list_cmp_total files name b q))

-- of two writes of one name the later counts
pub with_file-with_file : (files : Option Files) (name a b : List ℕ) → with_file (with_file files name a) name b ≡ with_file files name b
with_file-with_file None name a b = refl
with_file-with_file (Some files) name a b = ap Some (insert-insert files name a b)

-- a write keeps all other files
pub KeepsOthers-with_file : (files : Option Files) (name bytes : List ℕ) → KeepsOthers files (with_file files name bytes) name
KeepsOthers-with_file None name bytes other ne = refl
KeepsOthers-with_file (Some files) name bytes other ne = ap Some (get-other files name bytes other ne)

pub KeepsOthers-trans : (old between new : Option Files) (name : List ℕ) → KeepsOthers old between name → KeepsOthers between new name → KeepsOthers old new name
KeepsOthers-trans old between new name first then other ne = then other ne ∙ first other ne

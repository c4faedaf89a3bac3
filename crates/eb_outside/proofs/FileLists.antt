-- A list of files as a finite map: what its first file of a name has, and what becomes of it where that file is replaced.
use Rattle.std.proofs.Common.{suc, ◌≡◌, ℕ, ◌+◌, ◌<◌, ◌≤◌, Bool, true, false, not, List, [], ◌∷◌, ◌++◌, length, get_or, refl, sym, ap, ◌∙◌, arith}
use Rattle.std.proofs.Math.ListN.{set}
use borrow.Author.Tests.{ltb-true, ltb-false}
use Rattle.std.proofs.lemmas.Cmp.{nat_list_eq_equiv}
use Rattle.std.specs.Prelude.{Vec, Option, Some, None, cond, nat_lt}
use Rattle.std.specs.Ordering.{nat_cmp, eq_by_cmp}
use Rattle.std.specs.Cmp.Lexicographic.{slice_cmp, nat_list_cmp_total, texts_ties, same_text, other_text}
use Rattle.std.specs.FinMap.{get, find, insert, from_entries, get-from_entries, get-insert, same_map, from_entries_push, slice_cmp-IsAntisymmetric, nat_cmp-IsAntisymmetric}
use Rattle.std.specs.Str.{bytes_eq}
use Rattle.std.specs.declared.alloc.Global.{Global}
use Rattle.eb_outside.specs.InMemory.{entries_of, files_of, place_or_len, place_of}

-- the test of a look-up in a map is the test of its texts
tie : (q x : List ℕ) → eq_by_cmp (slice_cmp nat_cmp) q x ≡ bytes_eq x q
tie q x = sym (texts_ties q x) ∙ nat_list_eq_equiv.symm q x

one_plus : (n : ℕ) → 1 + n ≡ suc n
one_plus n = omega arith

-- the first file of a name has the bytes
find_found : (files : List (List ℕ × Vec ℕ Global)) (name : List ℕ) (d : List ℕ × Vec ℕ Global) → place_or_len files name < length files
    → find (slice_cmp nat_cmp) name (entries_of files) ≡ Some (get_or files (place_or_len files name) d).1.items
find_found [] name d h = absurd (omega arith)
find_found (f ∷ fs) name d h =
    ap (λ b. cond b (Some f.1.items) (find (slice_cmp nat_cmp) name (entries_of fs))) (tie name f.0)
    ∙ elim (bytes_eq f.0 name) as (λ b. cond (not b) (1 + place_or_len fs name) 0 < length (f ∷ fs)
    → cond b (Some f.1.items) (find (slice_cmp nat_cmp) name (entries_of fs)) ≡ Some (get_or (f ∷ fs) (cond (not b) (1 + place_or_len fs name) 0) d).1.items) [
      | true ↦ λ h. refl
      | false ↦ λ h. rw (one_plus (place_or_len fs name)) (find_found fs name d (omega arith))
    ] h

-- where the list has no file of the name, neither has the map
find_missing : (files : List (List ℕ × Vec ℕ Global)) (name : List ℕ) → length files ≤ place_or_len files name
    → find (slice_cmp nat_cmp) name (entries_of files) ≡ None
find_missing [] name h = refl
find_missing (f ∷ fs) name h =
    ap (λ b. cond b (Some f.1.items) (find (slice_cmp nat_cmp) name (entries_of fs))) (tie name f.0)
    ∙ elim (bytes_eq f.0 name) as (λ b. length (f ∷ fs) ≤ cond (not b) (1 + place_or_len fs name) 0
    → cond b (Some f.1.items) (find (slice_cmp nat_cmp) name (entries_of fs)) ≡ None) [
      | true ↦ λ h. absurd (omega arith)
      | false ↦ λ h. find_missing fs name (omega arith)
    ] h

same_bytes : (a b : List ℕ) → bytes_eq a b ≡ true → a ≡ b
same_bytes a b e = same_text a b (sym e)

-- the file at that place has the name
name_at : (files : List (List ℕ × Vec ℕ Global)) (name : List ℕ) (d : List ℕ × Vec ℕ Global) → place_or_len files name < length files
    → (get_or files (place_or_len files name) d).0 ≡ name
name_at [] name d h = absurd (omega arith)
name_at (f ∷ fs) name d h =
    elim (bytes_eq f.0 name) as (λ b. bytes_eq f.0 name ≡ b → cond (not b) (1 + place_or_len fs name) 0 < length (f ∷ fs)
    → (get_or (f ∷ fs) (cond (not b) (1 + place_or_len fs name) 0) d).0 ≡ name) [
      | true ↦ λ e h. same_bytes f.0 name e
      | false ↦ λ e h. rw (one_plus (place_or_len fs name)) (name_at fs name d (omega arith))
    ] refl h

kept_behind : {X : Type 0} (t : Bool) (v w : X) (rest : Option X) → cond t (Some v) rest ≡ cond t (Some v) (cond t (Some w) rest)
kept_behind true v w rest = refl
kept_behind false v w rest = refl

kept_before : {X : Type 0} (t u : Bool) (v w : X) (rest : Option X) → (t ≡ true → u ≡ true → ⊥) → cond t (Some w) (cond u (Some v) rest) ≡ cond u (Some v) (cond t (Some w) rest)
kept_before true true v w rest apart = absurd (apart refl refl)
kept_before true false v w rest apart = refl
kept_before false u v w rest apart = refl

-- no text ties with two that differ
apart : (a b q : List ℕ) → bytes_eq a b ≡ false → eq_by_cmp (slice_cmp nat_cmp) q a ≡ true → eq_by_cmp (slice_cmp nat_cmp) q b ≡ true → ⊥
apart a b q e ta tb =
    let qa : a ≡ q = same_bytes a q (sym (tie q a) ∙ ta) in
    let qb : b ≡ q = same_bytes b q (sym (tie q b) ∙ tb) in
    let same : a ≡ b = cc in
    other_text a b (sym e) same

-- a look-up once the first file of a name has other bytes
find_replaced : (files : List (List ℕ × Vec ℕ Global)) (name : List ℕ) (v : Vec ℕ Global) (q : List ℕ) → place_or_len files name < length files
    → find (slice_cmp nat_cmp) q (entries_of (set files (place_or_len files name) (name, v)))
    ≡ cond (eq_by_cmp (slice_cmp nat_cmp) q name) (Some v.items) (find (slice_cmp nat_cmp) q (entries_of files))
find_replaced [] name v q h = absurd (omega arith)
find_replaced (f ∷ fs) name v q h =
    elim (bytes_eq f.0 name) as (λ b. bytes_eq f.0 name ≡ b → cond (not b) (1 + place_or_len fs name) 0 < length (f ∷ fs)
    → find (slice_cmp nat_cmp) q (entries_of (set (f ∷ fs) (cond (not b) (1 + place_or_len fs name) 0) (name, v)))
    ≡ cond (eq_by_cmp (slice_cmp nat_cmp) q name) (Some v.items) (find (slice_cmp nat_cmp) q (entries_of (f ∷ fs)))) [
      | true ↦ λ e h. rw (same_bytes f.0 name e) (kept_behind (eq_by_cmp (slice_cmp nat_cmp) q name) v.items f.1.items (find (slice_cmp nat_cmp) q (entries_of fs)))
      | false ↦ λ e h. rw (one_plus (place_or_len fs name))
          (ap (cond (eq_by_cmp (slice_cmp nat_cmp) q f.0) (Some f.1.items)) (find_replaced fs name v q (omega arith))
          ∙ kept_before (eq_by_cmp (slice_cmp nat_cmp) q f.0) (eq_by_cmp (slice_cmp nat_cmp) q name) v.items f.1.items (find (slice_cmp nat_cmp) q (entries_of fs)) (apart f.0 name q e))
    ] refl h

-- what the place of a name says, where there is one
found : (b : Bool) (p i : ℕ) → Some i ≡ cond b (Some p) None → (b ≡ true) × (i ≡ p)
found true p i e = (refl, cc)
found false p i e = cc

missing : (b : Bool) (p : ℕ) → None ≡ cond b (Some p) None → b ≡ false
missing true p e = cc
missing false p e = refl

place_found : (files : List (List ℕ × Vec ℕ Global)) (name : List ℕ) (i : ℕ) → Some i ≡ place_of files name
    → (place_or_len files name < length files) × (i ≡ place_or_len files name)
place_found files name i e =
    let f : (nat_lt (place_or_len files name) (length files) ≡ true) × (i ≡ place_or_len files name) = found _ _ i e in
    (ltb-true _ _ f.0, f.1)

place_missing : (files : List (List ℕ × Vec ℕ Global)) (name : List ℕ) → None ≡ place_of files name → length files ≤ place_or_len files name
place_missing files name e = ltb-false _ _ (missing _ _ e)

pub get_found : (files : List (List ℕ × Vec ℕ Global)) (name : List ℕ) (i : ℕ) (d : List ℕ × Vec ℕ Global) → Some i ≡ place_of files name
    → get (files_of files) name ≡ Some (get_or files i d).1.items
get_found files name i d e =
    let f : (place_or_len files name < length files) × (i ≡ place_or_len files name) = place_found files name i e in
    rw f.1 (get-from_entries nat_list_cmp_total (entries_of files) name ∙ find_found files name d f.0)

pub get_missing : (files : List (List ℕ × Vec ℕ Global)) (name : List ℕ) → None ≡ place_of files name → get (files_of files) name ≡ None
get_missing files name e = get-from_entries nat_list_cmp_total (entries_of files) name ∙ find_missing files name (place_missing files name e)

-- to give other bytes to the first file of a name is to insert it
pub files_of-set : (files : List (List ℕ × Vec ℕ Global)) (name : List ℕ) (i : ℕ) (v : Vec ℕ Global) (d : List ℕ × Vec ℕ Global) → Some i ≡ place_of files name
    → files_of (set files i ((get_or files i d).0, v)) ≡ insert (files_of files) name v.items
files_of-set files name i v d e =
    let f : (place_or_len files name < length files) × (i ≡ place_or_len files name) = place_found files name i e in
    rw (f.1, name_at files name d f.0) (same_map nat_list_cmp_total (slice_cmp-IsAntisymmetric nat_cmp-IsAntisymmetric) _ _ (λ q.
    get-from_entries nat_list_cmp_total _ q ∙ find_replaced files name v q f.0
    ∙ sym (get-insert nat_list_cmp_total _ name v.items q ∙ ap (cond (eq_by_cmp (slice_cmp nat_cmp) q name) (Some v.items)) (get-from_entries nat_list_cmp_total (entries_of files) q))))

entries_of-append : (files others : List (List ℕ × Vec ℕ Global)) → entries_of (files ++ others) ≡ entries_of files ++ entries_of others
entries_of-append [] others = refl
entries_of-append (f ∷ fs) others = ap (λ es. (f.0, f.1.items) ∷ es) (entries_of-append fs others)

-- to push a file of a new name is to insert it
pub files_of-push : (files : List (List ℕ × Vec ℕ Global)) (name : List ℕ) (v : Vec ℕ Global) → None ≡ place_of files name
    → files_of (files ++ (name, v) ∷ []) ≡ insert (files_of files) name v.items
files_of-push files name v e =
    ap from_entries (entries_of-append files ((name, v) ∷ []))
    ∙ from_entries_push nat_list_cmp_total (slice_cmp-IsAntisymmetric nat_cmp-IsAntisymmetric) (entries_of files) name v.items
    (find_missing files name (place_missing files name e))

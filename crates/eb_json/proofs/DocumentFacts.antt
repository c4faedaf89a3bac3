-- What reading bytes says of the document that they are.
use Rattle.std.proofs.Common.{◌≡◌, ℕ, ◌&&◌, List, Bool, true, false, Some, None, IsUtf8, refl, sym, ap, ◌∙◌, length, map, nat_eq, Bor, inl, inr}
use Rattle.std.proofs.lemmas.Bool.Decides.{eqb_tells}
use Rattle.std.proofs.lemmas.Bool.{ne_eqb}
use Rattle.std.proofs.lemmas.List.{length-map}
use Rattle.std.specs.Str.{is_utf8}
use Rattle.std.proofs.lemmas.Str.{IsUtf8-from_is_utf8, is_utf8-from_IsUtf8}
use Rattle.serde_json.specs.Data.{Data}
use Rattle.serde_json.specs.Read.{read}
use Rattle.serde_json.specs.Find.{as_object}
use Rattle.serde_json.specs.View.{members_view}
use Rattle.serde_json.proofs.Views.{Entry, members_len-members_view}
use Rattle.eb_json.specs.Documents.{document_where, document_of, has_members, has_each, has_keys}

pub document_of-some : (bytes : List ℕ) (d : Data) → IsUtf8 bytes → read bytes ≡ Some d → document_of bytes ≡ Some d
unfolding document_of
document_of-some bytes d text is = ap (λ b. document_where b bytes) (is_utf8-from_IsUtf8 bytes text) ∙ is

none_where : (bytes : List ℕ) (b : Bool) → is_utf8 bytes ≡ b → (IsUtf8 bytes → read bytes ≡ None) → document_where b bytes ≡ None
none_where bytes true is none = none (IsUtf8-from_is_utf8 bytes is)
none_where bytes false is none = refl

pub document_of-none : (bytes : List ℕ) → (IsUtf8 bytes → read bytes ≡ None) → document_of bytes ≡ None
unfolding document_of
document_of-none bytes none = none_where bytes _ refl none

object_keys : (keys : List (Bor (List ℕ))) (d : Data) (es : List Entry) (n : ℕ) → Some (members_view es) ≡ as_object d → n ≡ length es
    → has_keys (map (λ k. k.now) keys) d ≡ (nat_eq n (length keys) && has_each (map (λ k. k.now) keys) d)
unfolding has_keys
object_keys keys d es n is len =
    let all = map (λ (k : Bor (List ℕ)). k.now) keys in
    ap (λ o. has_members (length all) o && has_each all d) (sym is)
    ∙ ap (λ m. nat_eq m (length all) && has_each all d) (members_len-members_view es ∙ sym len)
    ∙ ap (λ m. nat_eq n m && has_each all d) (length-map keys (λ k. k.now))

-- as many members as keys: the test of each key decides
pub has_keys-counted : (keys : List (Bor (List ℕ))) (d : Data) (es : List Entry) (n : ℕ) → Some (members_view es) ≡ as_object d → n ≡ length es → n ≡ length keys
    → has_each (map (λ k. k.now) keys) d ≡ has_keys (map (λ k. k.now) keys) d
has_keys-counted keys d es n is len same =
    sym (object_keys keys d es n is len ∙ ap (λ b. b && has_each (map (λ k. k.now) keys) d) (elim (eqb_tells n (length keys)) [ inl w ↦ w.0 | inr w ↦ absurd (w.1 same) ]))

pub has_keys-miscounted : (keys : List (Bor (List ℕ))) (d : Data) (es : List Entry) (n : ℕ) → Some (members_view es) ≡ as_object d → n ≡ length es → (n ≡ length keys → ⊥)
    → nat_eq n (length keys) ≡ has_keys (map (λ k. k.now) keys) d
has_keys-miscounted keys d es n is len other =
    let no : nat_eq n (length keys) ≡ false = ne_eqb n (length keys) other in
    no ∙ sym (object_keys keys d es n is len ∙ ap (λ b. b && has_each (map (λ k. k.now) keys) d) no)

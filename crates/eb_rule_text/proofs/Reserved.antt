-- The words of the table are the reserved ones.
use Rattle.std.proofs.Common.{◌≡◌, Bool, true, false, if◌then◌else◌, ◌||◌, List, [], ◌∷◌, map, refl, sym}
use Rattle.std.specs.Prelude.{Option, Some, bytes_eq}
use Rattle.std.specs.List.{list_any}
use Rattle.eb_base.specs.TypeNames.{is_reserved}
use Rattle.eb_rule_text.specs.declared.lexing.TheConstants.{WORDS}
use Rattle.eb_rule_text.specs.declared.marks.Mark.{Mark}
use Rattle.eb_rule_text.specs.Tokens.{Text, lookup, keyword, is_found}

found_where : (b : Bool) (k : Mark) (o : Option Mark) (rest : Bool) → is_found o ≡ rest → is_found (if b then Some k else o) ≡ (b || rest)
found_where true k o rest h = refl
found_where false k o rest h = h

found_in : (table : List (Text × Mark)) (word : Text) → is_found (lookup table word) ≡ list_any (λ w. bytes_eq w word) (map (λ k. k.0) table)
found_in [] word = refl
found_in (k ∷ ks) word = found_where (bytes_eq k.0 word) k.1 (lookup ks word) (list_any (λ w. bytes_eq w word) (map (λ k. k.0) ks)) (found_in ks word)

pub reserved_is : (word : Text) → is_reserved word ≡ is_found (keyword word)
unfolding keyword
reserved_is word = sym (found_in (map (λ k. (k.0.now, k.1)) WORDS) word)

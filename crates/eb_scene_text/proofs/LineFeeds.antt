-- A line feed behind a text that was printed is passed over.
use Rattle.std.proofs.Common.{◌≡◌, ℕ, Bool, true, false, cond, ◌&&◌, List, [], ◌∷◌, ◌++◌, refl, sym, ap, ap₂, ◌∙◌, append_assoc}
use Rattle.json.specs.Token.{Token, begin_object, end_object, begin_array, end_array, key, string, number, boolean, null, bad}
use Rattle.json.specs.Word.{ends_word, word}
use Rattle.json.specs.Lex.{token, comma, colon, string_token, lex, between, fresh, punctuate, tokens}
use Rattle.json.specs.Print.{escape, quoted, token_text, begins, ends, separator, print_from, print, IsPrintableOrBad, ArePrintableOrBad}
use Rattle.json.proofs.Printed.Strings.{content-escape, lex-escape}
use Rattle.json.proofs.Printed.Numbers.{lex-number, in_word-ended}
use Rattle.json.proofs.Numbered.{ArePrintableOrBad-tokens}

-- after a value stands a comma, a closing bracket or nothing
ends_here : (ts : List Token) → ends_word (print_from true ts) ≡ true
unfolding print_from
ends_here [] = refl
ends_here (begin_object ∷ ts) = refl
ends_here (end_object ∷ ts) = refl
ends_here (begin_array ∷ ts) = refl
ends_here (end_array ∷ ts) = refl
ends_here (key s ∷ ts) = refl
ends_here (string s ∷ ts) = refl
ends_here (number s ∷ ts) = refl
ends_here (boolean b ∷ ts) = refl
ends_here (null ∷ ts) = refl
ends_here (bad ∷ ts) = refl

-- or the line feed
ends_there : (ts : List Token) → ends_word (print_from true ts ++ 10 ∷ []) ≡ true
unfolding print_from
ends_there [] = refl
ends_there (begin_object ∷ ts) = refl
ends_there (end_object ∷ ts) = refl
ends_there (begin_array ∷ ts) = refl
ends_there (end_array ∷ ts) = refl
ends_there (key s ∷ ts) = refl
ends_there (string s ∷ ts) = refl
ends_there (number s ∷ ts) = refl
ends_there (boolean b ∷ ts) = refl
ends_there (null ∷ ts) = refl
ends_there (bad ∷ ts) = refl

quoted_lexed : (s r : List ℕ) → lex between (quoted s ++ r) ≡ token (string s) ∷ lex between r
unfolding lex
quoted_lexed s r =
    ap (λ l. lex between (34 ∷ l)) (append_assoc (escape s) (34 ∷ []) r)
    ∙ ap₂ (λ o l. token (string_token o) ∷ l) (content-escape s r) (lex-escape s r)

-- texts that go on alike are read alike
module _ (r s : List ℕ) (same : lex between r ≡ lex between s) where
  literal_alike : (text : List ℕ) (t : Token) → ((u : List ℕ) → ends_word u ≡ true → lex between (text ++ u) ≡ token t ∷ lex between u) → ends_word r ≡ true → ends_word s ≡ true → lex between (text ++ r) ≡ lex between (text ++ s)
  literal_alike text t reads left right = reads r left ∙ ap (λ l. token t ∷ l) same ∙ sym (reads s right)

  quoted_alike : (x : List ℕ) → lex between (quoted x ++ r) ≡ lex between (quoted x ++ s)
  quoted_alike x = quoted_lexed x r ∙ ap (λ l. token (string x) ∷ l) same ∙ sym (quoted_lexed x s)

  key_alike : (x : List ℕ) → lex between ((quoted x ++ 58 ∷ []) ++ r) ≡ lex between ((quoted x ++ 58 ∷ []) ++ s)
  unfolding lex
  key_alike x =
      ap (lex between) (append_assoc (quoted x) (58 ∷ []) r)
      ∙ quoted_lexed x (58 ∷ r) ∙ ap (λ l. token (string x) ∷ colon ∷ l) same ∙ sym (quoted_lexed x (58 ∷ s))
      ∙ sym (ap (lex between) (append_assoc (quoted x) (58 ∷ []) s))

  true_lexed : (u : List ℕ) → ends_word u ≡ true → lex between (token_text (boolean true) ++ u) ≡ token (boolean true) ∷ lex between u
  unfolding lex word
  true_lexed u ended = ap₂ (λ b l. token (cond b (boolean true) bad) ∷ l) ended (in_word-ended u ended)

  false_lexed : (u : List ℕ) → ends_word u ≡ true → lex between (token_text (boolean false) ++ u) ≡ token (boolean false) ∷ lex between u
  unfolding lex word
  false_lexed u ended = ap₂ (λ b l. token (cond b (boolean false) bad) ∷ l) ended (in_word-ended u ended)

  null_lexed : (u : List ℕ) → ends_word u ≡ true → lex between (token_text null ++ u) ≡ token null ∷ lex between u
  unfolding lex word
  null_lexed u ended = ap₂ (λ b l. token (cond b null bad) ∷ l) ended (in_word-ended u ended)

  token_alike : (t : Token) → IsPrintableOrBad t → (ends t ≡ true → ends_word r ≡ true) → (ends t ≡ true → ends_word s ≡ true) → lex between (token_text t ++ r) ≡ lex between (token_text t ++ s)
  unfolding lex
  token_alike begin_object is left right = ap (λ l. token begin_object ∷ l) same
  token_alike end_object is left right = ap (λ l. token end_object ∷ l) same
  token_alike begin_array is left right = ap (λ l. token begin_array ∷ l) same
  token_alike end_array is left right = ap (λ l. token end_array ∷ l) same
  token_alike (key x) is left right = key_alike x
  token_alike (string x) is left right = quoted_alike x
  token_alike (number x) is left right = literal_alike x (number x) (λ u ended. lex-number x u is ended) (left refl) (right refl)
  token_alike (boolean true) is left right = literal_alike (token_text (boolean true)) (boolean true) true_lexed (left refl) (right refl)
  token_alike (boolean false) is left right = literal_alike (token_text (boolean false)) (boolean false) false_lexed (left refl) (right refl)
  token_alike null is left right = literal_alike (token_text null) null null_lexed (left refl) (right refl)
  token_alike bad is left right = same

separator_alike : (b : Bool) (r s : List ℕ) → lex between r ≡ lex between s → lex between (cond b (44 ∷ []) [] ++ r) ≡ lex between (cond b (44 ∷ []) [] ++ s)
unfolding lex
separator_alike true r s same = ap (λ l. comma ∷ l) same
separator_alike false r s same = same

feed_lexed : (c : Bool) (ts : List Token) → ArePrintableOrBad ts → lex between (print_from c ts ++ 10 ∷ []) ≡ lex between (print_from c ts)
unfolding lex print_from
feed_lexed c [] all = refl
feed_lexed c (t ∷ ts) all =
    let rest = print_from (ends t) ts in
    let comma_text = separator c t in
    ap (lex between) (append_assoc comma_text (token_text t ++ rest) (10 ∷ []) ∙ ap (λ l. comma_text ++ l) (append_assoc (token_text t) rest (10 ∷ [])))
    ∙ separator_alike (c && begins t) (token_text t ++ (rest ++ 10 ∷ [])) (token_text t ++ rest)
    (token_alike (rest ++ 10 ∷ []) rest (feed_lexed (ends t) ts all.1) t all.0
    (λ e. ap (λ b. ends_word (print_from b ts ++ 10 ∷ [])) e ∙ ends_there ts) (λ e. ap (λ b. ends_word (print_from b ts)) e ∙ ends_here ts))

-- the tokens of a printed text, with a line feed or without
pub feed_passed : (text : List ℕ) → text ≡ print (tokens text) → tokens (text ++ 10 ∷ []) ≡ tokens text
feed_passed text printed =
    ap (λ t. tokens (t ++ 10 ∷ [])) printed
    ∙ ap (punctuate fresh) (feed_lexed false (tokens text) (ArePrintableOrBad-tokens text))
    ∙ sym (ap tokens printed)

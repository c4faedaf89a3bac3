-- A tree that was read from a text is read again from the text that it is printed as.
use Rattle.std.proofs.Common.{◌≡◌, ℕ, List, [], length, Ok, Err, refl, sym, ap, ◌∙◌, rules}
use Rattle.eb_rule_text.specs.declared.errors.TextError.{TextError}
use Rattle.eb_rule_text.specs.declared.lexemes.Lexed.{Lexed}
use Rattle.eb_rule_text.specs.declared.trees.RulesTree.{RulesTree}
use Rattle.eb_rule_text.specs.declared.trees.JobTree.{JobTree}
use Rattle.std.specs.Prelude.{Result}
use Rattle.eb_rule_text.specs.declared.passes.Placed.{Placed}
use Rattle.eb_rule_text.specs.Tokens.{Text, Lexes, tokens}
use Rattle.eb_rule_text.specs.Input.{Input, Outcome, Parser}
use Rattle.eb_rule_text.specs.Blocks.{rules as reader, job}
use Rattle.eb_rule_text.specs.Grammar.{IsRules, IsJob}
use Rattle.eb_rule_text.specs.Passes.{placed, with_places, parsed, read_text, Spells}
use Rattle.eb_rule_text.specs.Printing.{rules_text, job_text}
use Rattle.eb_rule_text.proofs.SoundTexts.{rules_sound, job_sound}
use Rattle.eb_rule_text.proofs.CompleteTexts.{rules_is, job_is}
use Rattle.eb_rule_text.proofs.SpelledBack.{tokens_of_text}
use Rattle.eb_rule_text.proofs.SpelledTokens.{tokens_spelled}
use Rattle.eb_rule_text.proofs.PrintedTexts.{rules_printed, job_printed}

-- the tokens of a text that was read
record WasRead {A : Type 0} (p : Parser A) (text : Text) (tree : A) (places : List ℕ) : Type 0 where
  lexemes : Input
  rest : Input
  cut : tokens text ≡ Ok (record { places = places; lexemes = lexemes })
  is : p lexemes ≡ Ok (tree, rest)

abbrev tree_in : {A : Type 0} → A → Result (Placed A) TextError → A
tree_in other (Ok p) = p.tree
tree_in other (Err x) = other

abbrev places_in : {A : Type 0} → List ℕ → Result (Placed A) TextError → List ℕ
places_in other (Ok p) = p.places
places_in other (Err x) = other

lexed_at : (lexed : Lexed) (places : List ℕ) → lexed.places ≡ places → ◌≡◌ {A = Lexes} (Ok lexed) (Ok (record { places = places; lexemes = lexed.lexemes }))
lexed_at lexed places e = rw (← e) refl

read_where : {A : Type 0} (p : Parser A) (text : Text) (lexed : Lexed) (r : Outcome A) (end : ℕ) (tree : A) (places : List ℕ)
    → tokens text ≡ Ok lexed → p lexed.lexemes ≡ r → with_places r lexed.places end ≡ Ok (placed tree places) → WasRead p text tree places
read_where p text lexed (Ok q) end tree places cut e h =
    let same : q.0 ≡ tree = ap (λ r. tree_in q.0 r) h in
    let at : lexed.places ≡ places = ap (λ r. places_in lexed.places r) h in
    record { lexemes = lexed.lexemes; rest = q.1; cut = cut ∙ lexed_at lexed places at; is = e ∙ ap (λ t. Ok (t, q.1)) same }
read_where p text lexed (Err x) end tree places cut e h = absurd (search rules)

lexed_where : {A : Type 0} (p : Parser A) (text : Text) (r : Lexes) (end : ℕ) (tree : A) (places : List ℕ) → tokens text ≡ r → parsed p r end ≡ Ok (placed tree places) → WasRead p text tree places
lexed_where p text (Ok lexed) end tree places cut h = read_where p text lexed (p lexed.lexemes) end tree places cut refl h
lexed_where p text (Err x) end tree places cut h = absurd (search rules)

was_read : {A : Type 0} (p : Parser A) (text : Text) (tree : A) (places : List ℕ) → read_text p text ≡ Ok (placed tree places) → WasRead p text tree places
was_read p text tree places h = lexed_where p text (tokens text) (length text) tree places refl h

again : {A : Type 0} (p : Parser A) (text : Text) (tree : A) (places : List ℕ) (lexemes : Input) → tokens text ≡ Ok (record { places = places; lexemes = lexemes }) → p lexemes ≡ Ok (tree, [])
    → read_text p text ≡ Ok (placed tree places)
again p text tree places lexemes cut h = rw (cut, h) refl

-- ---- what is read of a text is in the grammar, and what is in the grammar is read

pub rules_spelled : (text : Text) (tree : RulesTree) (places : List ℕ) → read_text reader text ≡ Ok (placed tree places) → Spells IsRules text tree places
rules_spelled text tree places h =
    let a = was_read reader text tree places h in record { lexemes = a.lexemes; cut = a.cut; is = rules_sound a.lexemes a.rest tree a.is }

pub rules_read : (text : Text) (tree : RulesTree) (places : List ℕ) → Spells IsRules text tree places → read_text reader text ≡ Ok (placed tree places)
rules_read text tree places s = again reader text tree places s.lexemes s.cut (rules_is s.lexemes tree s.is)

pub job_spelled : (text : Text) (tree : JobTree) (places : List ℕ) → read_text job text ≡ Ok (placed tree places) → Spells IsJob text tree places
job_spelled text tree places h = let a = was_read job text tree places h in record { lexemes = a.lexemes; cut = a.cut; is = job_sound a.lexemes a.rest tree a.is }

pub job_read : (text : Text) (tree : JobTree) (places : List ℕ) → Spells IsJob text tree places → read_text job text ≡ Ok (placed tree places)
job_read text tree places s = again job text tree places s.lexemes s.cut (job_is s.is)

-- ---- what is printed

pub rules_again : (text : Text) (tree : RulesTree) (places : List ℕ) → read_text reader text ≡ Ok (placed tree places) → (more : List ℕ) × (read_text reader (rules_text tree) ≡ Ok (placed tree more))
rules_again text tree places h =
    let a = rules_spelled text tree places h in
    let t = tokens_of_text a.lexemes (tokens_spelled text (record { places = places; lexemes = a.lexemes }) a.cut) in
    let cut = ap tokens (sym (rules_printed a.lexemes tree a.is)) ∙ t.1 in
    (t.0, again reader (rules_text tree) tree t.0 a.lexemes cut (rules_is a.lexemes tree a.is))

pub job_again : (text : Text) (tree : JobTree) (places : List ℕ) → read_text job text ≡ Ok (placed tree places) → (more : List ℕ) × (read_text job (job_text tree) ≡ Ok (placed tree more))
job_again text tree places h =
    let a = job_spelled text tree places h in
    let t = tokens_of_text a.lexemes (tokens_spelled text (record { places = places; lexemes = a.lexemes }) a.cut) in
    let cut = ap tokens (sym (job_printed a.is)) ∙ t.1 in
    (t.0, again job (job_text tree) tree t.0 a.lexemes cut (job_is a.is))

-- Walks over values, additions and statements follow their tokens.
use Rattle.std.proofs.Common.{◌≡◌, ℕ, Bool, true, false, not, List, [], ◌∷◌, ◌++◌, map, drop, Option, Some, None, refl, sym, ap, ◌∙◌, rules, append_assoc, append-nil}
use Rattle.std.specs.Prelude.{bytes_eq, nat_le}
use Rattle.eb_rule_text.specs.declared.lexemes.Lexeme.{Lexeme}
use Rattle.eb_rule_text.specs.declared.lexemes.Lexeme.TheVariants as l
use Rattle.eb_rule_text.specs.declared.marks.Mark.TheVariants as m
use Rattle.eb_rule_text.specs.declared.trees.Context.{Context}
use Rattle.eb_rule_text.specs.declared.trees.Expr.{Expr}
use Rattle.eb_rule_text.specs.declared.trees.Init.{Init}
use Rattle.eb_rule_text.specs.declared.trees.Add.{Add}
use Rattle.eb_rule_text.specs.declared.trees.Stmt.{Stmt, the_lemmas}
use Rattle.eb_rule_text.specs.declared.trees.Stmt.TheVariants as s
use Rattle.eb_rule_text.specs.declared.trees.Stmt.TheOpen.{Stmt-F}
use Rattle.eb_rule_text.specs.Input.{Input}
use Rattle.eb_rule_text.specs.Blocks.{init_of}
use Rattle.eb_rule_text.specs.Grammar.{IsExpr, EndInits, last_init, one_init, AreInits, no_init, some_init, IsAdd, added, EndAdds, no_add, one_add, IsStmt, EndStmts, a_let, an_add, an_extra, an_if, an_else, no_stmt, one_stmt}
use Rattle.eb_schema.specs.declared.kinds.Kind.{Kind}
use Rattle.eb_schema.specs.declared.kinds.Field.{Field}
use Rattle.eb_schema.specs.Schemas.{component_named}
use Rattle.eb_rules.specs.declared.faults.RuleKind.TheVariants.{UnknownName, TypeFault, NameTaken, TooMany}
use Rattle.eb_rules.specs.declared.plans.Addition.{Addition}
use Rattle.eb_rules.specs.declared.plans.Filling.{Filling}
use Rattle.eb_rules.specs.declared.plans.Step.{Step}
use Rattle.eb_rules.specs.declared.plans.Step.TheVariants as step
use Rattle.eb_rules.specs.declared.scopes.Visible.{Visible}
use Rattle.eb_rules.specs.declared.shapes.Shape.{Shape}
use Rattle.eb_rules.specs.declared.shapes.Shape.TheVariants as shape
use Rattle.eb_rules.specs.declared.walking.State.{State}
use Rattle.eb_rules.specs.Shapes.{shape_of, fits}
use Rattle.eb_rules.specs.Scopes.{Text, Where, field_kind, component_fields, next_field}
use Rattle.eb_rules.specs.Typing.{Places, and_found, typed, required, tested}
use Rattle.eb_rules.specs.Statements.{Fixed, scope_of, next_kind, fitted, init_typed, closed, behind_comma, inits_from, values_typed, is_full, add_kind, add_typed, adds_typed, Walk, let_walk, with_types, add_walk, extra_walk, all_walks, inside, other_walk, if_walk, stmt_step, walked, is_free}
use Rattle.eb_rules.specs.Meanings.{and_some, only, expr_meant, fitted_meant, init_meant, none_left, inits_meant, values_meant, kind_meant, add_meant, adds_meant, Meaner, let_meant, extra_meant, all_meant, block_meant, other_meant, if_meant, stmt_meaning, stmt_meant}
use Rattle.eb_rules.specs.Following.{Passed, Means, unknown_name, wrong_name, wrong_chain, missing_field, taken_name, last_name, last_extra, Follows, Tests}
use Rattle.eb_rules.proofs.Follow.{none_passed, passed_then, shifted, onward, test_then, tests_then, points_here, onto, onto_with, onto_none, onto_cons, onto_empty, onto_one, at_meaning, then_onto, then_list, required_tests, tested_tests}
use Rattle.eb_rules.proofs.FollowReads.{front_passed}
use Rattle.eb_rules.proofs.FollowExprs.{expr_follows}

-- ---- values

pub fitted_follows : (w : Where) (wanted : Option Shape) {d : ℕ} {x : Expr} {i j : Input} → IsExpr w.context d i x j → (p : Places) → Follows (fitted w wanted x p) (fitted_meant w wanted x) i j p
fitted_follows w wanted {x = x} {i = i} {j = j} is p =
    onward (typed w x p) _ (expr_meant w x) _ i j j p (expr_follows w is p)
    (λ y q pass. test_then (tested TypeFault (fits wanted y.shape) p) _ (only (fits wanted y.shape)) _ i j p (tested_tests TypeFault (fits wanted y.shape) 0 i p (wrong_chain is)) (λ u. (refl, pass)))

there_where : (x : Text) (g : Field) (more : List Field) (b : Bool) → bytes_eq x g.name ≡ b → (k : Kind) × (field_kind x more ≡ Some k) → (k : Kind) × (field_kind x (g ∷ more) ≡ Some k)
there_where x g more true e found = (g.kind, rw e refl)
there_where x g more false e found = (found.0, rw e found.1)

field_there : (x : Text) (front : List Field) (f : Field) (fs : List Field) → bytes_eq x f.name ≡ true → (k : Kind) × (field_kind x (front ++ f ∷ fs) ≡ Some k)
field_there x [] f fs e = (f.kind, rw e refl)
field_there x (g ∷ gs) f fs e = there_where x g (gs ++ f ∷ fs) (bytes_eq x g.name) refl (field_there x gs f fs e)

none_where : (front : List Field) (f : Field) (fs : List Field) (name : Text) (b : Bool) → bytes_eq name f.name ≡ b → field_kind name (front ++ f ∷ fs) ≡ None → next_field (f ∷ fs) name ≡ None
none_where front f fs name true e none = let there = field_there name front f fs e in let no = sym there.1 ∙ none in absurd (search rules)
none_where front f fs name false e none = rw e refl

none_next : (front left : List Field) (name : Text) → field_kind name (front ++ left) ≡ None → next_field left name ≡ None
none_next front [] name e = refl
none_next front (f ∷ fs) name e = none_where front f fs name (bytes_eq name f.name) refl e

known_where : (m : Option Kind) (left : List Field) (name : Text) (n : ℕ) (i : Input) (p : Places) → Means UnknownName (drop n i) → Means TypeFault (drop n i) → (m ≡ None → next_field left name ≡ None)
    → Tests (and_found (required UnknownName m (drop n p)) (λ k. required TypeFault (next_field left name) (drop n p))) (next_field left name) i p
known_where None left name n i p unknown wrong none = (none refl, points_here UnknownName n i p unknown)
known_where (Some k) left name n i p unknown wrong none = required_tests TypeFault (next_field left name) n i p wrong

-- the fields of the component are those whose values stand before, and those that are left
record Left (fields left : List Field) : Type 0 where
  front : List Field
  is : fields ≡ front ++ left

next_tests : (fields left : List Field) → Left fields left → (name : Text) (n : ℕ) (i : Input) (p : Places) → Means UnknownName (drop n i) → Means TypeFault (drop n i) → Tests (next_kind fields left name (drop n p)) (next_field left name) i p
next_tests fields left split name n i p unknown wrong = known_where (field_kind name fields) left name n i p unknown wrong (λ e. none_next split.front left name (sym (ap (field_kind name) split.is) ∙ e))

one_left : (fields left : List Field) → Left fields left → Left fields (drop 1 left)
one_left fields [] split = split
one_left fields (f ∷ fs) split = record { front = split.front ++ f ∷ []; is = split.is ∙ sym (append_assoc split.front (f ∷ []) fs) }

closes : {i j : Input} {p q : Places} {z : Input} → Passed i z p q → (s : Lexeme) → z ≡ s ∷ j → Passed i j p (drop 1 q)
closes {j = j} {q = q} pass s e = passed_then (rw (← e) pass) (front_passed (s ∷ []) j q)

init_follows : (w : Where) (fields left : List Field) → Left fields left → {d : ℕ} (name : Text) (x : Expr) (i k : Input) → IsExpr w.context d i x k → (p : Places)
    → Follows (init_typed w fields left (init_of name x) p) (init_meant w left (init_of name x)) (l.Name name ∷ l.Mark m.Colon ∷ i) k p
init_follows w fields left split name x i k is p =
    test_then (next_kind fields left name p) _ (next_field left name) _ (l.Name name ∷ l.Mark m.Colon ∷ i) k p (next_tests fields left split name 0 (l.Name name ∷ l.Mark m.Colon ∷ i) p unknown_name wrong_name)
    (λ kind. onward (fitted w (shape_of kind) x (drop 2 p)) _ (fitted_meant w (shape_of kind) x) _ (l.Name name ∷ l.Mark m.Colon ∷ i) k k p
    (shifted _ _ _ (front_passed (l.Name name ∷ l.Mark m.Colon ∷ []) i p) (fitted_follows w (shape_of kind) is (drop 2 p))) (λ y q pass. (refl, pass)))

abbrev pub commaed : Bool → Input → Input
commaed true i = i
commaed false i = l.Mark m.Comma ∷ i

comma_passed : (first : Bool) (i : Input) (p : Places) → Passed (commaed first i) i p (behind_comma first p)
comma_passed true i p = none_passed i p
comma_passed false i p = front_passed (l.Mark m.Comma ∷ []) i p

closed_follows : (left : List Field) (done : List Filling) (j : Input) (p : Places) → Follows (closed left done p) (onto done (none_left left)) (l.Mark m.RBrace ∷ j) j p
closed_follows [] done j p = (ap Some (append-nil done), front_passed (l.Mark m.RBrace ∷ []) j p)
closed_follows (f ∷ fs) done j p = (refl, points_here TypeFault 0 (l.Mark m.RBrace ∷ j) p missing_field)

inits_on : (w : Where) (fields left : List Field) → Left fields left → {d : ℕ} (name : Text) (x : Expr) (more : List Init) (i k j : Input) → IsExpr w.context d i x k → (first : Bool) (done : List Filling) (p : Places)
    → ((done : List Filling) (q : Places) → Follows (inits_from w fields (drop 1 left) false more done q) (onto done (inits_meant w (drop 1 left) more)) k j q)
    → Follows (inits_from w fields left first (init_of name x ∷ more) done p) (onto done (inits_meant w left (init_of name x ∷ more))) (commaed first (l.Name name ∷ l.Mark m.Colon ∷ i)) j p
inits_on w fields left split name x more i k j is first done p rest =
    then_list done (init_typed w fields left (init_of name x) (behind_comma first p)) _ (init_meant w left (init_of name x)) _ (commaed first (l.Name name ∷ l.Mark m.Colon ∷ i)) k j p
    (shifted _ _ _ (comma_passed first (l.Name name ∷ l.Mark m.Colon ∷ i) p) (init_follows w fields left split name x i k is (behind_comma first p)))
    (λ y q pass. at_meaning _ _ _ _ _ _ (onto_one done y (inits_meant w (drop 1 left) more)) (shifted _ _ _ pass (rest (done ++ y ∷ []) q)))

inits_follow : (w : Where) (fields left : List Field) → Left fields left → {d : ℕ} {i j : Input} {xs : List Init} → EndInits w.context d i xs j → (first : Bool) (done : List Filling) (p : Places)
    → Follows (inits_from w fields left first xs done p) (onto done (inits_meant w left xs)) (commaed first i) j p
inits_follow w fields left split (last_init {i = i} {j = j} {field = name} {x = x} is) first done p =
    inits_on w fields left split name x [] i (l.Mark m.RBrace ∷ j) j is first done p (λ more q. closed_follows (drop 1 left) more j q)
inits_follow w fields left split (one_init {i = i} {k = k} {j = j} {field = name} {x = x} {more = more} is are) first done p =
    inits_on w fields left split name x more i (l.Mark m.Comma ∷ k) j is first done p (λ filled q. inits_follow w fields (drop 1 left) (one_left fields left split) are false filled q)

pub values_follow : (w : Where) (n : ℕ) {d : ℕ} {i j : Input} {xs : List Init} → AreInits w.context d i xs j → (p : Places) → Follows (values_typed w n xs p) (values_meant w n xs) i j p
values_follow w n (no_init {j = j}) p =
    onward (inits_from w (component_fields w.types n) (component_fields w.types n) true [] [] (drop 1 p)) _ (inits_meant w (component_fields w.types n) []) _ (l.Mark m.LBrace ∷ l.Mark m.RBrace ∷ j) j j p
    (shifted _ _ _ (front_passed (l.Mark m.LBrace ∷ []) (l.Mark m.RBrace ∷ j) p) (at_meaning _ _ _ _ _ _ (onto_empty _) (closed_follows (component_fields w.types n) [] j (drop 1 p)))) (λ y q pass. (refl, pass))
values_follow w n (some_init {i = i} {j = j} {values = xs} are) p =
    onward (inits_from w (component_fields w.types n) (component_fields w.types n) true xs [] (drop 1 p)) _ (inits_meant w (component_fields w.types n) xs) _ (l.Mark m.LBrace ∷ i) j j p
    (shifted _ _ _ (front_passed (l.Mark m.LBrace ∷ []) i p)
    (at_meaning _ _ _ _ _ _ (onto_empty _) (inits_follow w (component_fields w.types n) (component_fields w.types n) (record { front = []; is = refl }) are true [] (drop 1 p)))) (λ y q pass. (refl, pass))

-- ---- additions

kind_tests : (g : Fixed) (types : List ℕ) (kind : Text) (n : ℕ) (i : Input) (p : Places) → Means UnknownName (drop n i) → Means TooMany (drop n i) → Tests (add_kind g types kind (drop n p)) (kind_meant g types kind) i p
kind_tests g types kind n i p unknown many =
    tests_then (required UnknownName (component_named g.types kind) (drop n p)) _ (component_named g.types kind) _ i p (required_tests UnknownName (component_named g.types kind) n i p unknown)
    (λ k. tests_then (tested TooMany (not (is_full g.context k types)) (drop n p)) _ (only (not (is_full g.context k types))) _ i p (tested_tests TooMany (not (is_full g.context k types)) n i p many) (λ u. refl))

pub add_follows : (g : Fixed) (seen : List Visible) (types : List ℕ) {d : ℕ} {i j : Input} {x : Add} → IsAdd g.context d i x j → (p : Places) → Follows (add_typed g seen types x p) (add_meant g seen types x) i j p
add_follows g seen types (added {i = i} {j = j} {kind = kind} {values = values} are) p =
    test_then (add_kind g types kind (drop 1 p)) _ (kind_meant g types kind) _ (l.Mark m.Add ∷ l.Name kind ∷ i) j p (kind_tests g types kind 1 (l.Mark m.Add ∷ l.Name kind ∷ i) p unknown_name last_name)
    (λ n. onward (values_typed (scope_of g seen) n values (drop 2 p)) _ (values_meant (scope_of g seen) n values) _ (l.Mark m.Add ∷ l.Name kind ∷ i) j j p
    (shifted _ _ _ (front_passed (l.Mark m.Add ∷ l.Name kind ∷ []) i p) (values_follow (scope_of g seen) n are (drop 2 p))) (λ y q pass. (refl, pass)))

pub adds_follow : (g : Fixed) (seen : List Visible) {d : ℕ} {i j : Input} {xs : List Add} → EndAdds g.context d i xs j → (done : List Addition) (types : List ℕ) (p : Places)
    → Follows (adds_typed g seen xs done types p) (onto_with done (adds_meant g seen xs types)) i (l.Mark m.RBrace ∷ j) p
adds_follow g seen (no_add {j = j}) done types p = (ap (λ ys. Some (ys, types)) (append-nil done), none_passed (l.Mark m.RBrace ∷ j) p)
adds_follow g seen (one_add {i = i} {k = k} {j = j} {x = x} {more = more} is are) done types p =
    then_onto done (add_typed g seen types x p) _ (add_meant g seen types x) _ i k (l.Mark m.RBrace ∷ j) p (add_follows g seen types is p)
    (λ y q pass. at_meaning _ _ _ _ _ _ (onto_cons done y.0 (adds_meant g seen more y.1)) (shifted _ _ _ pass (adds_follow g seen are (done ++ y.0 ∷ []) y.1 q)))

-- ---- the walk and the meaning at each statement

walked_let : (g : Fixed) (x : Text) (value : Expr) (st : State) (p : Places) → walked g (s.Let x value) st p ≡ let_walk g x value st p
unfolding walked
walked_let g x value st p = search (rules, the_lemmas)

walked_add : (g : Fixed) (x : Add) (st : State) (p : Places) → walked g (s.Add x) st p ≡ add_walk g x st p
unfolding walked
walked_add g x st p = search (rules, the_lemmas)

walked_extra : (g : Fixed) (x : Text) (adds : List Add) (st : State) (p : Places) → walked g (s.Extra x adds) st p ≡ extra_walk g x adds st p
unfolding walked
walked_extra g x adds st p = search (rules, the_lemmas)

walked_if : (g : Fixed) (test : Expr) (body : List Stmt) (st : State) (p : Places) → walked g (s.If test body None) st p ≡ if_walk g test (map (walked g) body) None st p
unfolding walked
walked_if g test body st p = search (rules, the_lemmas)

walked_both : (g : Fixed) (test : Expr) (body other : List Stmt) → walked g (s.If test body (Some other)) ≡ stmt_step g (Stmt-F.If test (map (walked g) body) (Some (map (walked g) other)))
unfolding walked
walked_both g test body other = search (rules, the_lemmas)

walked_else : (g : Fixed) (test : Expr) (body other : List Stmt) (st : State) (p : Places) → walked g (s.If test body (Some other)) st p ≡ if_walk g test (map (walked g) body) (Some (map (walked g) other)) st p
walked_else g test body other st p = ap (λ w. w st p) (walked_both g test body other)

pub meant_let : (g : Fixed) (x : Text) (value : Expr) (st : State) → stmt_meant g (s.Let x value) st ≡ let_meant g x value st
unfolding stmt_meant
meant_let g x value st = search (rules, the_lemmas)

pub meant_add : (g : Fixed) (x : Add) (st : State) → stmt_meant g (s.Add x) st ≡ and_some (add_meant g st.known st.types x) (λ y. Some (step.Add y.0, with_types st y.1))
unfolding stmt_meant
meant_add g x st = search (rules, the_lemmas)

pub meant_extra : (g : Fixed) (x : Text) (adds : List Add) (st : State) → stmt_meant g (s.Extra x adds) st ≡ extra_meant g x adds st
unfolding stmt_meant
meant_extra g x adds st = search (rules, the_lemmas)

pub meant_if : (g : Fixed) (test : Expr) (body : List Stmt) (st : State) → stmt_meant g (s.If test body None) st ≡ if_meant g test (map (stmt_meant g) body) None st
unfolding stmt_meant
meant_if g test body st = search (rules, the_lemmas)

pub meant_both : (g : Fixed) (test : Expr) (body other : List Stmt) → stmt_meant g (s.If test body (Some other)) ≡ stmt_meaning g (Stmt-F.If test (map (stmt_meant g) body) (Some (map (stmt_meant g) other)))
unfolding stmt_meant
meant_both g test body other = search (rules, the_lemmas)

pub meant_else : (g : Fixed) (test : Expr) (body other : List Stmt) (st : State) → stmt_meant g (s.If test body (Some other)) st ≡ if_meant g test (map (stmt_meant g) body) (Some (map (stmt_meant g) other)) st
meant_else g test body other st = ap (λ w. w st) (meant_both g test body other)

-- ---- one statement

StmtFollows : Fixed → Stmt → Input → Input → Type 0
StmtFollows g x i j = (st : State) (p : Places) → Follows (walked g x st p) (stmt_meant g x st) i j p

StmtsFollow : Fixed → List Stmt → Input → Input → Type 0
StmtsFollow g xs i j = (done : List Step) (st : State) (p : Places) → Follows (all_walks (map (walked g) xs) done st p) (onto_with done (all_meant (map (stmt_meant g) xs) st)) i (l.Mark m.RBrace ∷ j) p

-- a derivation in the walk's own context
in_context : (g : Fixed) {context : Context} {d : ℕ} {i j : Input} {x : Expr} → g.context ≡ context → IsExpr context d i x j → IsExpr g.context d i x j
in_context g e is = rw e is

add_in_context : (g : Fixed) {context : Context} {d : ℕ} {i j : Input} {x : Add} → g.context ≡ context → IsAdd context d i x j → IsAdd g.context d i x j
add_in_context g e is = rw e is

adds_in_context : (g : Fixed) {context : Context} {d : ℕ} {i j : Input} {xs : List Add} → g.context ≡ context → EndAdds context d i xs j → EndAdds g.context d i xs j
adds_in_context g e is = rw e is

let_follows : (g : Fixed) {d : ℕ} (x : Text) (value : Expr) (i j : Input) → IsExpr g.context d i value (l.Mark m.Semicolon ∷ j) → StmtFollows g (s.Let x value) (l.Mark m.Let ∷ l.Name x ∷ l.Mark m.Assign ∷ i) j
unfolding StmtFollows
let_follows g x value i j is st p =
    rw (walked_let g x value st p, meant_let g x value st)
    (test_then (tested NameTaken (is_free x st.known) (drop 1 p)) _ (only (is_free x st.known)) _ (l.Mark m.Let ∷ l.Name x ∷ l.Mark m.Assign ∷ i) j p (tested_tests NameTaken (is_free x st.known) 1 (l.Mark m.Let ∷ l.Name x ∷ l.Mark m.Assign ∷ i) p taken_name)
    (λ u. onward (typed (scope_of g st.known) value (drop 3 p)) _ (expr_meant (scope_of g st.known) value) _ (l.Mark m.Let ∷ l.Name x ∷ l.Mark m.Assign ∷ i) (l.Mark m.Semicolon ∷ j) j p
    (shifted _ _ _ (front_passed (l.Mark m.Let ∷ l.Name x ∷ l.Mark m.Assign ∷ []) i p) (expr_follows (scope_of g st.known) is (drop 3 p))) (λ y q pass. (refl, closes pass (l.Mark m.Semicolon) refl))))

add_stmt_follows : (g : Fixed) {d : ℕ} (x : Add) (i j : Input) → IsAdd g.context d i x j → StmtFollows g (s.Add x) i j
unfolding StmtFollows
add_stmt_follows g x i j is st p =
    rw (walked_add g x st p, meant_add g x st) (onward (add_typed g st.known st.types x p) _ (add_meant g st.known st.types x) _ i j j p (add_follows g st.known st.types is p) (λ y q pass. (refl, pass)))

extra_follows : (g : Fixed) {d : ℕ} (x : Text) (adds : List Add) (i j : Input) → EndAdds g.context d i adds j → StmtFollows g (s.Extra x adds) (l.Mark m.Extra ∷ l.Name x ∷ l.Mark m.LBrace ∷ i) j
unfolding StmtFollows
extra_follows g x adds i j are st p =
    let tokens : Input = l.Mark m.Extra ∷ l.Name x ∷ l.Mark m.LBrace ∷ i in
    rw (walked_extra g x adds st p, meant_extra g x adds st)
    (test_then (tested TooMany (not (nat_le 16 st.extras)) p) _ (only (not (nat_le 16 st.extras))) _ tokens j p (tested_tests TooMany (not (nat_le 16 st.extras)) 0 tokens p last_extra)
    (λ u. test_then (tested NameTaken (is_free x st.known) (drop 1 p)) _ (only (is_free x st.known)) _ tokens j p (tested_tests NameTaken (is_free x st.known) 1 tokens p taken_name)
    (λ v. onward (adds_typed g st.known adds [] [] (drop 3 p)) _ (adds_meant g st.known adds []) _ tokens (l.Mark m.RBrace ∷ j) j p
    (shifted _ _ _ (front_passed (l.Mark m.Extra ∷ l.Name x ∷ l.Mark m.LBrace ∷ []) i p) (at_meaning _ _ _ _ _ _ (onto_none _) (adds_follow g st.known are [] [] (drop 3 p)))) (λ y q pass. (refl, closes pass (l.Mark m.RBrace) refl)))))

-- { .. }
block_follows : (g : Fixed) (xs : List Stmt) (i j : Input) → StmtsFollow g xs i j → (st : State) (p : Places) → Follows (inside (map (walked g) xs) st p) (block_meant (map (stmt_meant g) xs) st) (l.Mark m.LBrace ∷ i) j p
unfolding StmtsFollow
block_follows g xs i j are st p =
    onward (all_walks (map (walked g) xs) [] st (drop 1 p)) _ (all_meant (map (stmt_meant g) xs) st) _ (l.Mark m.LBrace ∷ i) (l.Mark m.RBrace ∷ j) j p
    (shifted _ _ _ (front_passed (l.Mark m.LBrace ∷ []) i p) (at_meaning _ _ _ _ _ _ (onto_none _) (are [] st (drop 1 p)))) (λ y q pass. (refl, closes pass (l.Mark m.RBrace) refl))

OtherFollows : Option (List Walk) → Option (List Meaner) → Input → Input → Type 0
OtherFollows walks meanings i j = (st : State) (p : Places) → Follows (other_walk walks st p) (other_meant meanings st) i j p

test_follows : (g : Fixed) {d : ℕ} (test : Expr) (body : List Stmt) (walks : Option (List Walk)) (meanings : Option (List Meaner)) (i k n j : Input) → IsExpr g.context d i test (l.Mark m.LBrace ∷ k) → StmtsFollow g body k n → OtherFollows walks meanings n j
    → (st : State) (p : Places) → Follows (if_walk g test (map (walked g) body) walks st p) (if_meant g test (map (stmt_meant g) body) meanings st) (l.Mark m.If ∷ i) j p
unfolding OtherFollows
test_follows g test body walks meanings i k n j is are others st p =
    onward (fitted (scope_of g st.known) (Some shape.Bool) test (drop 1 p)) _ (fitted_meant (scope_of g st.known) (Some shape.Bool) test) _ (l.Mark m.If ∷ i) (l.Mark m.LBrace ∷ k) j p
    (shifted _ _ _ (front_passed (l.Mark m.If ∷ []) i p) (fitted_follows (scope_of g st.known) (Some shape.Bool) is (drop 1 p)))
    (λ y q pass. onward (inside (map (walked g) body) st q) _ (block_meant (map (stmt_meant g) body) st) _ (l.Mark m.If ∷ i) n j p (shifted _ _ _ pass (block_follows g body k n are st q))
    (λ z r passed. onward (other_walk walks z.1 r) _ (other_meant meanings z.1) _ (l.Mark m.If ∷ i) j j p (shifted _ _ _ passed (others z.1 r)) (λ o t last. (refl, last))))

no_other : (j : Input) → OtherFollows None None j j
unfolding OtherFollows
no_other j st p = (refl, none_passed j p)

an_other : (g : Fixed) (xs : List Stmt) (i j : Input) → StmtsFollow g xs i j → OtherFollows (Some (map (walked g) xs)) (Some (map (stmt_meant g) xs)) (l.Mark m.Else ∷ l.Mark m.LBrace ∷ i) j
unfolding OtherFollows
an_other g xs i j are st p = shifted (inside (map (walked g) xs) st (drop 1 p)) (block_meant (map (stmt_meant g) xs) st) _ (front_passed (l.Mark m.Else ∷ []) (l.Mark m.LBrace ∷ i) p) (block_follows g xs i j are st (drop 1 p))

if_follows : (g : Fixed) {d : ℕ} (test : Expr) (body : List Stmt) (i k j : Input) → IsExpr g.context d i test (l.Mark m.LBrace ∷ k) → StmtsFollow g body k j → StmtFollows g (s.If test body None) (l.Mark m.If ∷ i) j
unfolding StmtFollows
if_follows g test body i k j is are st p = rw (walked_if g test body st p, meant_if g test body st) (test_follows g test body None None i k j j is are (no_other j) st p)

else_follows : (g : Fixed) {d : ℕ} (test : Expr) (body other : List Stmt) (i k n j : Input) → IsExpr g.context d i test (l.Mark m.LBrace ∷ k) → StmtsFollow g body k (l.Mark m.Else ∷ l.Mark m.LBrace ∷ n) → StmtsFollow g other n j
    → StmtFollows g (s.If test body (Some other)) (l.Mark m.If ∷ i) j
unfolding StmtFollows
else_follows g test body other i k n j is are others st p =
    rw (walked_else g test body other st p, meant_else g test body other st)
    (test_follows g test body (Some (map (walked g) other)) (Some (map (stmt_meant g) other)) i k (l.Mark m.Else ∷ l.Mark m.LBrace ∷ n) j is are (an_other g other n j others) st p)

stmts_end : (g : Fixed) (j : Input) → StmtsFollow g [] (l.Mark m.RBrace ∷ j) j
unfolding StmtsFollow
stmts_end g j done st p = (ap (λ ys. Some (ys, st)) (append-nil done), none_passed (l.Mark m.RBrace ∷ j) p)

stmts_more : (g : Fixed) (x : Stmt) (xs : List Stmt) (i k j : Input) → StmtFollows g x i k → StmtsFollow g xs k j → StmtsFollow g (x ∷ xs) i j
unfolding StmtFollows StmtsFollow
stmts_more g x xs i k j is are done st p =
    then_onto done (walked g x st p) _ (stmt_meant g x st) _ i k (l.Mark m.RBrace ∷ j) p (is st p)
    (λ y q pass. at_meaning _ _ _ _ _ _ (onto_cons done y.0 (all_meant (map (stmt_meant g) xs) y.1)) (shifted _ _ _ pass (are (done ++ y.0 ∷ []) y.1 q)))

mutual
  stmt_follows : (g : Fixed) {context : Context} {d : ℕ} {i j : Input} {x : Stmt} → g.context ≡ context → IsStmt context d i x j → StmtFollows g x i j
  stmt_follows g e (a_let {i = i} {j = j} {x = x} {value = value} is) = let_follows g x value i j (in_context g e is)
  stmt_follows g e (an_add {i = i} {j = j} {x = x} is) = add_stmt_follows g x i j (add_in_context g e is)
  stmt_follows g e (an_extra {i = i} {j = j} {x = x} {body = adds} are) = extra_follows g x adds i j (adds_in_context g e are)
  stmt_follows g e (an_if {i = i} {k = k} {j = j} {test = test} {body = body} is are) = if_follows g test body i k j (in_context g e is) (stmts_follow g e are)
  stmt_follows g e (an_else {i = i} {k = k} {n = n} {j = j} {test = test} {body = body} {other = other} is are others) = else_follows g test body other i k n j (in_context g e is) (stmts_follow g e are) (stmts_follow g e others)

  stmts_follow : (g : Fixed) {context : Context} {d : ℕ} {i j : Input} {xs : List Stmt} → g.context ≡ context → EndStmts context d i xs j → StmtsFollow g xs i j
  stmts_follow g e (no_stmt {j = j}) = stmts_end g j
  stmts_follow g e (one_stmt {i = i} {k = k} {j = j} {x = x} {more = more} is are) = stmts_more g x more i k j (stmt_follows g e is) (stmts_follow g e are)

-- statements in braces
pub body_follows : (g : Fixed) {context : Context} {d : ℕ} {i j : Input} {xs : List Stmt} → g.context ≡ context → EndStmts context d i xs j → (st : State) (p : Places)
    → Follows (inside (map (walked g) xs) st p) (block_meant (map (stmt_meant g) xs) st) (l.Mark m.LBrace ∷ i) j p
body_follows g {i = i} {j = j} {xs = xs} e are st p = block_follows g xs i j (stmts_follow g e are) st p

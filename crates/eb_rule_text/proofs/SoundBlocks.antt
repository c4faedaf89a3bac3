-- Statements are in the grammar, where they are read.
use Rattle.std.proofs.Common.{◌≡◌, ℕ, zero, suc, ◌-◌, ◌<◌, Bool, true, false, if◌then◌else◌, List, [], ◌∷◌, ◌++◌, length, Option, Some, None, Ok, sym, ap, ◌∙◌, append_assoc, append-nil, arith, rules}
use Rattle.eb_rule_text.specs.declared.lexemes.Lexeme.TheVariants as l
use Rattle.eb_rule_text.specs.declared.marks.Mark.{Mark}
use Rattle.eb_rule_text.specs.declared.marks.Mark.TheVariants as m
use Rattle.eb_rule_text.specs.declared.trees.Context.{Context}
use Rattle.eb_rule_text.specs.declared.trees.Context.TheVariants as c
use Rattle.eb_rule_text.specs.declared.trees.Expr.{Expr}
use Rattle.eb_rule_text.specs.declared.trees.Init.{Init}
use Rattle.eb_rule_text.specs.declared.trees.Add.{Add}
use Rattle.eb_rule_text.specs.declared.trees.Stmt.{Stmt}
use Rattle.eb_rule_text.specs.declared.trees.Stmt.TheVariants as s
use Rattle.eb_rule_text.specs.Tokens.{Text}
use Rattle.eb_rule_text.specs.Input.{Input, Parser, go_on, ◌>>◌, pure, refuse, mark, expect, eat, until_brace}
use Rattle.eb_rule_text.specs.Blocks as spec
use Rattle.eb_rule_text.specs.Grammar.{IsExpr, EndInits, last_init, one_init, AreInits, no_init, some_init, IsAdd, added, EndAdds, no_add, one_add, IsStmt, a_let, an_add, an_extra, an_if, an_else, EndStmts, no_stmt, one_stmt}
use Rattle.eb_rule_text.proofs.Steps.{went, ok_value, ok_rest, expected, opened, named, taken, left}
use Rattle.eb_rule_text.proofs.SoundExprs.{expression_sound}

one_less : (d : ℕ) → 0 < d → d ≡ suc (d - 1)
one_less d h = omega arith

-- ---- lists in braces

-- items and a closing brace
pub data Ends {A : Type 0} (P : Input → A → Input → Type 0) : Input → List A → Input → Type 0 where
  at_brace : {j : Input} → Ends P (l.Mark m.RBrace ∷ j) [] j
  one_more : {i k j : Input} {x : A} {more : List A} → P i x k → Ends P k more j → Ends P i (x ∷ more) j

pub record Ended {A : Type 0} (P : Input → A → Input → Type 0) (i : Input) (done x : List A) (j : Input) : Type 0 where
  pub more : List A
  pub whole : x ≡ done ++ more
  pub are : Ends P i more j

unfoldable pub Sound : {A : Type 0} → (Input → A → Input → Type 0) → Parser A → Type 0
Sound {A} P p = (i j : Input) (x : A) → p i ≡ Ok (x, j) → P i x j

Turned : {A : Type 0} → (Input → A → Input → Type 0) → Parser A → ℕ → Type 0
Turned {A} P p turns = (i j : Input) (done x : List A) → until_brace p turns done i ≡ Ok (x, j) → Ended P i done x j

closing : {A : Type 0} (P : Input → A → Input → Type 0) (i k j : Input) (done x : List A) → i ≡ l.Mark m.RBrace ∷ k → pure done k ≡ Ok (x, j) → Ended P i done x j
closing P i k j done x first h = record { more = []; whole = sym (ok_value h) ∙ sym (append-nil done); are = rw (first, ← ok_rest h) at_brace }

onward : {A : Type 0} (P : Input → A → Input → Type 0) (i k n j : Input) (done x : List A) (y : A) → i ≡ k → P k y n → Ended P n (done ++ y ∷ []) x j → Ended P i done x j
onward P i k n j done x y same is rest =
    record { more = y ∷ rest.more; whole = rest.whole ∙ append_assoc done (y ∷ []) rest.more; are = rw same (one_more is rest.are) }

turn_where : {A : Type 0} (P : Input → A → Input → Type 0) (p : Parser A) (turns : ℕ) → Sound P p → Turned P p turns → (i k j : Input) (done x : List A) (b : Bool) → eat m.RBrace i ≡ Ok (b, k)
    → (if b then pure done else (λ n. go_on (p n) (λ y. until_brace p turns (done ++ y ∷ [])))) k ≡ Ok (x, j) → Ended P i done x j
unfolding Sound Turned
turn_where P p turns is more i k j done x true e h = closing P i k j done x (taken _ _ _ e) h
turn_where P p turns is more i k j done x false e h =
    let a = went _ _ x j h in
    onward P i k a.rest j done x a.value (left _ _ _ e) (is k a.rest a.value a.first) (more a.rest j (done ++ a.value ∷ []) x a.onward)

turned : {A : Type 0} (P : Input → A → Input → Type 0) (p : Parser A) → Sound P p → (turns : ℕ) → Turned P p turns
unfolding Turned
turned P p is zero i j done x h = absurd (search rules)
turned P p is (suc turns) i j done x h = let a = went _ _ x j h in turn_where P p turns is (turned P p is turns) i a.rest j done x a.value a.first a.onward

pub until_sound : {A : Type 0} (P : Input → A → Input → Type 0) (p : Parser A) → Sound P p → (i j : Input) (x : List A) → until_brace p (length i) [] i ≡ Ok (x, j) → Ends P i x j
unfolding Turned
until_sound P p is i j x h = let a = turned P p is (length i) i j [] x h in rw a.whole a.are

-- ---- inits

record InitRead (context : Context) (d : ℕ) (i : Input) (x : Init) (j : Input) : Type 0 where
  field : Text
  value : Expr
  rest : Input
  tokens : i ≡ l.Name field ∷ l.Mark m.Colon ∷ rest
  is : IsExpr context d rest value j
  whole : x ≡ spec.init_of field value

init_moved : (context : Context) (d : ℕ) (i k n t j : Input) (field : Text) (value : Expr) (x : Init) → i ≡ l.Name field ∷ k → k ≡ l.Mark m.Colon ∷ n → IsExpr context d n value t
    → pure (spec.init_of field value) t ≡ Ok (x, j) → InitRead context d i x j
init_moved context d i k n t j field value x first second is h =
    record { field = field; value = value; rest = n; tokens = first ∙ ap (λ o. l.Name field ∷ o) second; is = rw (← ok_rest h) is; whole = sym (ok_value h) }

init_sound : (context : Context) (d : ℕ) (i j : Input) (x : Init) → spec.init context (suc d) i ≡ Ok (x, j) → InitRead context d i x j
unfolding spec.init
init_sound context d i j x h =
    let a = went _ _ x j h in
    let b = went _ _ x j a.onward in
    let n = went _ _ x j b.onward in
    init_moved context d i a.rest b.rest n.rest j a.value n.value x (named _ _ _ a.first) (expected _ _ _ _ b.first) (expression_sound context d b.rest n.rest n.value n.first) n.onward

record Inits (context : Context) (d : ℕ) (i : Input) (done x : List Init) (j : Input) : Type 0 where
  more : List Init
  whole : x ≡ done ++ more
  are : EndInits context d i more j

InitsAll : Context → ℕ → ℕ → Type 0
InitsAll context d turns = (i j : Input) (done x : List Init) → spec.inits_from context (suc d) turns done i ≡ Ok (x, j) → Inits context d i done x j

last_moved : (context : Context) (d : ℕ) (i k n t j : Input) (done x : List Init) (y : Init) → InitRead context d i y k → k ≡ n → n ≡ l.Mark m.RBrace ∷ t → pure (done ++ y ∷ []) t ≡ Ok (x, j) → Inits context d i done x j
last_moved context d i k n t j done x y is same e h =
    let at : IsExpr context d is.rest is.value (l.Mark m.RBrace ∷ j) = rw (← ok_rest h, ← e, ← same) is.is in
    record { more = y ∷ []; whole = sym (ok_value h); are = rw (is.tokens, is.whole) (last_init at) }

one_moved : (context : Context) (d : ℕ) (i k n j : Input) (done x : List Init) (y : Init) → InitRead context d i y k → k ≡ l.Mark m.Comma ∷ n → Inits context d n (done ++ y ∷ []) x j → Inits context d i done x j
one_moved context d i k n j done x y is e rest =
    let at : IsExpr context d is.rest is.value (l.Mark m.Comma ∷ n) = rw (← e) is.is in
    record { more = y ∷ rest.more; whole = rest.whole ∙ append_assoc done (y ∷ []) rest.more; are = rw (is.tokens, is.whole) (one_init at rest.are) }

inits_where : (context : Context) (d turns : ℕ) → InitsAll context d turns → (i k n j : Input) (done x : List Init) (y : Init) → InitRead context d i y k → (b : Bool) → eat m.Comma k ≡ Ok (b, n)
    → (if b then spec.inits_from context (suc d) turns (done ++ y ∷ []) else (expect m.RBrace >> pure (done ++ y ∷ []))) n ≡ Ok (x, j) → Inits context d i done x j
unfolding InitsAll
inits_where context d turns more i k n j done x y is true e h = one_moved context d i k n j done x y is (taken _ _ _ e) (more n j (done ++ y ∷ []) x h)
inits_where context d turns more i k n j done x y is false e h =
    let a = went _ _ x j h in last_moved context d i k n a.rest j done x y is (left _ _ _ e) (expected _ _ _ _ a.first) a.onward

inits_from_sound : (context : Context) (d turns : ℕ) → InitsAll context d turns
unfolding InitsAll
inits_from_sound context d zero i j done x h = absurd (search rules)
inits_from_sound context d (suc turns) i j done x h =
    let a = went _ _ x j h in
    let b = went _ _ x j a.onward in
    inits_where context d turns (inits_from_sound context d turns) i a.rest b.rest j done x a.value (init_sound context d i a.rest a.value a.first) b.value b.first b.onward

some_inits_sound : (context : Context) (d : ℕ) (i j : Input) (x : List Init) → spec.some_inits context (suc d) i ≡ Ok (x, j) → EndInits context d i x j
unfolding spec.some_inits InitsAll
some_inits_sound context d i j x h = let a = inits_from_sound context d (length i) i j [] x h in rw a.whole a.are

empty_moved : (context : Context) (d : ℕ) (i k n j : Input) (x : List Init) → i ≡ l.Mark m.LBrace ∷ k → k ≡ l.Mark m.RBrace ∷ n → pure [] n ≡ Ok (x, j) → AreInits context (suc d) i x j
empty_moved context d i k n j x first second h = rw (first, second, ← ok_value h, ← ok_rest h) no_init

some_moved : (context : Context) (d : ℕ) (i k n j : Input) (x : List Init) → i ≡ l.Mark m.LBrace ∷ k → k ≡ n → EndInits context d n x j → AreInits context (suc d) i x j
some_moved context d i k n j x first same are = rw (first, same) (some_init are)

braced_where : (context : Context) (d : ℕ) (i k n j : Input) (x : List Init) → i ≡ l.Mark m.LBrace ∷ k → (b : Bool) → eat m.RBrace k ≡ Ok (b, n) → spec.inits_where context (suc d) b n ≡ Ok (x, j) → AreInits context (suc d) i x j
braced_where context d i k n j x first true e h = empty_moved context d i k n j x first (taken _ _ _ e) h
braced_where context d i k n j x first false e h = some_moved context d i k n j x first (left _ _ _ e) (some_inits_sound context d n j x h)

no_room : (n : ℕ) → 0 < zero → ⊥
no_room n h = omega arith

pub inits_sound : (context : Context) (d : ℕ) (i j : Input) (x : List Init) → spec.inits context d i ≡ Ok (x, j) → AreInits context d i x j
unfolding spec.inits
inits_sound context zero i j x h = let a = went _ _ x j h in absurd (no_room 0 (opened _ _ _ _ _ a.first).room)
inits_sound context (suc d) i j x h =
    let a = went _ _ x j h in
    let b = went _ _ x j a.onward in
    braced_where context d i a.rest b.rest j x (opened _ _ _ _ _ a.first).tokens b.value b.first b.onward

-- ---- adds

add_moved : (context : Context) (d : ℕ) (i j k n t : Input) (kind : Text) (values : List Init) (x : Add) → i ≡ l.Mark m.Add ∷ k → k ≡ l.Name kind ∷ n → AreInits context d n values t → pure (spec.add_of kind values) t ≡ Ok (x, j) → IsAdd context d i x j
add_moved context d i j k n t kind values x first second are h = rw (first, second, ← ok_value h, ← ok_rest h) (added are)

pub add_sound : (context : Context) (d : ℕ) (i j : Input) (x : Add) → spec.add context d i ≡ Ok (x, j) → IsAdd context d i x j
unfolding spec.add
add_sound context d i j x h =
    let a = went _ _ x j h in
    let b = went _ _ x j a.onward in
    let n = went _ _ x j b.onward in
    add_moved context d i j a.rest b.rest n.rest b.value n.value x (expected _ _ _ _ a.first) (named _ _ _ b.first) (inits_sound context d b.rest n.rest n.value n.first) n.onward

end_adds : (context : Context) (d : ℕ) (i j : Input) (x : List Add) → Ends (IsAdd context d) i x j → EndAdds context d i x j
end_adds context d _ _ _ at_brace = no_add
end_adds context d i j _ (one_more is more) = one_add is (end_adds context d _ j _ more)

pub record Braced {A : Type 0} (P : ℕ → Input → A → Input → Type 0) (d : ℕ) (i : Input) (x : A) (j : Input) : Type 0 where
  pub room : 0 < d
  pub rest : Input
  pub tokens : i ≡ l.Mark m.LBrace ∷ rest
  pub are : P (d - 1) rest x j

adds_sound : (context : Context) (d : ℕ) (i j : Input) (x : List Add) → spec.adds context d i ≡ Ok (x, j) → Braced (EndAdds context) d i x j
unfolding spec.adds Sound
adds_sound context zero i j x h = let a = went _ _ x j h in absurd (no_room 0 (opened _ _ _ _ _ a.first).room)
adds_sound context (suc d) i j x h =
    let a = went _ _ x j h in
    let open_ = opened _ _ _ _ _ a.first in
    let same : d ≡ suc d - 1 = omega arith in
    let are = until_sound (IsAdd context d) (spec.add context d) (add_sound context d) a.rest j x a.onward in
    record { room = open_.room; rest = a.rest; tokens = open_.tokens; are = rw (← same) (end_adds context d a.rest j x are) }

-- ---- statements

let_moved : (context : Context) (d : ℕ) (i j k n t u v : Input) (name : Text) (value : Expr) (x : Stmt) → i ≡ l.Mark m.Let ∷ k → k ≡ l.Name name ∷ n → n ≡ l.Mark m.Assign ∷ t
    → IsExpr context d t value u → u ≡ l.Mark m.Semicolon ∷ v → pure (s.Let name value) v ≡ Ok (x, j) → IsStmt context d i x j
let_moved context d i j k n t u v name value x e1 e2 e3 is e4 h =
    let at : IsExpr context d t value (l.Mark m.Semicolon ∷ v) = rw (← e4) is in rw (e1, e2, e3, ← ok_value h, ← ok_rest h) (a_let at)

let_sound : (context : Context) (d : ℕ) (i j : Input) (x : Stmt) → spec.let_stmt context d i ≡ Ok (x, j) → IsStmt context d i x j
unfolding spec.let_stmt
let_sound context d i j x h =
    let a = went _ _ x j h in
    let b = went _ _ x j a.onward in
    let n = went _ _ x j b.onward in
    let o = went _ _ x j n.onward in
    let q = went _ _ x j o.onward in
    let_moved context d i j a.rest b.rest n.rest o.rest q.rest b.value o.value x (expected _ _ _ _ a.first) (named _ _ _ b.first) (expected _ _ _ _ n.first)
    (expression_sound context d n.rest o.rest o.value o.first) (expected _ _ _ _ q.first) q.onward

extra_moved : (d : ℕ) (i j k n t : Input) (name : Text) (body : List Add) (x : Stmt) → i ≡ l.Mark m.Extra ∷ k → k ≡ l.Name name ∷ n → Braced (EndAdds c.Baker) d n body t → pure (s.Extra name body) t ≡ Ok (x, j) → IsStmt c.Baker d i x j
extra_moved d i j k n t name body x first second are h = rw (one_less d are.room, first, second, are.tokens, ← ok_value h, ← ok_rest h) (an_extra are.are)

extra_sound : (d : ℕ) (i j : Input) (x : Stmt) → spec.extra c.Baker d i ≡ Ok (x, j) → IsStmt c.Baker d i x j
unfolding spec.extra
extra_sound d i j x h =
    let a = went _ _ x j h in
    let b = went _ _ x j a.onward in
    let n = went _ _ x j b.onward in
    extra_moved d i j a.rest b.rest n.rest b.value n.value x (expected _ _ _ _ a.first) (named _ _ _ b.first) (adds_sound c.Baker d b.rest n.rest n.value n.first) n.onward

baker_extra_sound : (context : Context) (d : ℕ) (i j : Input) (x : Stmt) → spec.baker_extra context d i ≡ Ok (x, j) → IsStmt context d i x j
baker_extra_sound c.Baker d i j x h = extra_sound d i j x h
baker_extra_sound c.System d i j x h = absurd (search rules)
baker_extra_sound c.Job d i j x h = absurd (search rules)

add_stmt_moved : (context : Context) (d : ℕ) (i j k : Input) (y : Add) (x : Stmt) → IsAdd context d i y k → pure (s.Add y) k ≡ Ok (x, j) → IsStmt context d i x j
add_stmt_moved context d i j k y x is h = rw (← ok_value h, ← ok_rest h) (an_add is)

-- what is read is in the grammar, one level deeper
pub Below : Context → ℕ → Parser Stmt → Type 0
Below context d p = 0 < d → Sound (IsStmt context (d - 1)) p

end_stmts : (context : Context) (d : ℕ) (i j : Input) (x : List Stmt) → Ends (IsStmt context d) i x j → EndStmts context d i x j
end_stmts context d _ _ _ at_brace = no_stmt
end_stmts context d i j _ (one_more is more) = one_stmt is (end_stmts context d _ j _ more)

pub block_sound : (context : Context) (d : ℕ) (p : Parser Stmt) → Below context d p → (i j : Input) (x : List Stmt) → spec.block context d p i ≡ Ok (x, j) → Braced (EndStmts context) d i x j
unfolding spec.block Below
block_sound context d p below i j x h =
    let a = went _ _ x j h in
    let open_ = opened _ _ _ _ _ a.first in
    let are = until_sound (IsStmt context (d - 1)) p (below open_.room) a.rest j x a.onward in
    record { room = open_.room; rest = a.rest; tokens = open_.tokens; are = end_stmts context (d - 1) a.rest j x are }

if_moved : (context : Context) (d : ℕ) (i j k n t u : Input) (test : Expr) (body : List Stmt) (x : Stmt) → i ≡ l.Mark m.If ∷ k → IsExpr context d k test n → Braced (EndStmts context) d n body t → t ≡ u
    → pure (s.If test body None) u ≡ Ok (x, j) → IsStmt context d i x j
if_moved context d i j k n t u test body x first is are same h =
    let at : IsExpr context (suc (d - 1)) k test (l.Mark m.LBrace ∷ are.rest) = rw (← one_less d are.room, ← are.tokens) is in
    let all : EndStmts context (d - 1) are.rest body j = rw (← ok_rest h, ← same) are.are in
    rw (one_less d are.room, first, ← ok_value h) (an_if at all)

else_moved : (context : Context) (d : ℕ) (i j k n t u v : Input) (test : Expr) (body other : List Stmt) (x : Stmt) → i ≡ l.Mark m.If ∷ k → IsExpr context d k test n → Braced (EndStmts context) d n body t
    → t ≡ l.Mark m.Else ∷ u → Braced (EndStmts context) d u other v → pure (s.If test body (Some other)) v ≡ Ok (x, j) → IsStmt context d i x j
else_moved context d i j k n t u v test body other x first is are second more h =
    let at : IsExpr context (suc (d - 1)) k test (l.Mark m.LBrace ∷ are.rest) = rw (← one_less d are.room, ← are.tokens) is in
    let all : EndStmts context (d - 1) are.rest body (l.Mark m.Else ∷ l.Mark m.LBrace ∷ more.rest) = rw (← more.tokens, ← second) are.are in
    rw (one_less d are.room, first, ← ok_value h, ← ok_rest h) (an_else at all more.are)

other_moved : (test : Expr) (body : List Stmt) (y other : Option (List Stmt)) (k v j : Input) (x : Stmt) → pure y k ≡ Ok (other, v) → pure (s.If test body other) v ≡ Ok (x, j) → pure (s.If test body y) k ≡ Ok (x, j)
other_moved test body y other k v j x h g = rw (ok_value h, ok_rest h) g

otherwise_sound : (context : Context) (d : ℕ) (p : Parser Stmt) → Below context d p → (i j k n t u v : Input) (test : Expr) (body : List Stmt) (other : Option (List Stmt)) (x : Stmt)
    → i ≡ l.Mark m.If ∷ k → IsExpr context d k test n → Braced (EndStmts context) d n body t → (b : Bool) → eat m.Else t ≡ Ok (b, u) → spec.otherwise_where context d p b u ≡ Ok (other, v)
    → pure (s.If test body other) v ≡ Ok (x, j) → IsStmt context d i x j
otherwise_sound context d p below i j k n t u v test body other x first is are true e h g =
    let a = went _ _ other v h in
    let more = block_sound context d p below u a.rest a.value a.first in
    let whole : pure (s.If test body (Some a.value)) a.rest ≡ Ok (x, j) = other_moved test body (Some a.value) other a.rest v j x a.onward g in
    else_moved context d i j k n t u a.rest test body a.value x first is are (taken _ _ _ e) more whole
otherwise_sound context d p below i j k n t u v test body other x first is are false e h g =
    let whole : pure (s.If test body None) u ≡ Ok (x, j) = other_moved test body None other u v j x h g in
    if_moved context d i j k n t u test body x first is are (left _ _ _ e) whole

if_sound : (context : Context) (d : ℕ) (p : Parser Stmt) → Below context d p → (i j : Input) (x : Stmt) → spec.if_stmt context d p i ≡ Ok (x, j) → IsStmt context d i x j
unfolding spec.if_stmt spec.otherwise
if_sound context d p below i j x h =
    let a = went _ _ x j h in
    let b = went _ _ x j a.onward in
    let n = went _ _ x j b.onward in
    let o = went _ _ x j n.onward in
    let q = went _ _ o.value o.rest o.first in
    otherwise_sound context d p below i j a.rest b.rest n.rest q.rest o.rest b.value n.value o.value x (expected _ _ _ _ a.first)
    (expression_sound context d a.rest b.rest b.value b.first) (block_sound context d p below b.rest n.rest n.value n.first) q.value q.first q.onward o.onward

stmt_by_sound : (context : Context) (d : ℕ) (p : Parser Stmt) → Below context d p → (next : Option Mark) (i j : Input) (x : Stmt) → spec.stmt_by context d p next i ≡ Ok (x, j) → IsStmt context d i x j
stmt_by_sound context d p below (Some m.Let) i j x h = let_sound context d i j x h
stmt_by_sound context d p below (Some m.Add) i j x h =
    let a = went _ _ x j h in add_stmt_moved context d i j a.rest a.value x (add_sound context d i a.rest a.value a.first) a.onward
stmt_by_sound context d p below (Some m.If) i j x h = if_sound context d p below i j x h
stmt_by_sound context d p below (Some m.Extra) i j x h = baker_extra_sound context d i j x h
stmt_by_sound context d p below _ i j x h = absurd (search rules)

none_below : (context : Context) → Below context zero refuse
unfolding Below
none_below context h = absurd (no_room 0 h)

one_below : (context : Context) (d : ℕ) (p : Parser Stmt) → Sound (IsStmt context d) p → Below context (suc d) p
unfolding Below
one_below context d p is h = let same : d ≡ suc d - 1 = omega arith in rw (← same) is

pub stmt_sound : (context : Context) (d : ℕ) → Sound (IsStmt context d) (spec.stmt context d)
unfolding Sound spec.one_stmt
stmt_sound context zero i j x h = stmt_by_sound context zero refuse (none_below context) (mark i) i j x h
stmt_sound context (suc d) i j x h = stmt_by_sound context (suc d) (spec.stmt context d) (one_below context d (spec.stmt context d) (stmt_sound context d)) (mark i) i j x h

-- the body of a baker or a system
pub body_sound : (context : Context) (i j : Input) (x : List Stmt) → spec.block context 32 (spec.inner_stmt context 32) i ≡ Ok (x, j) → Braced (EndStmts context) 32 i x j
body_sound context i j x h = block_sound context 32 (spec.stmt context 31) (one_below context 31 (spec.stmt context 31) (stmt_sound context 31)) i j x h

-- Statements of the grammar are read.
use Rattle.std.proofs.Common.{◌≡◌, ℕ, zero, suc, ◌+◌, ◌≤◌, ◌<◌, true, false, List, [], ◌∷◌, ◌++◌, length, Some, None, Ok, refl, sym, ap, ◌∙◌, append_assoc, append-nil, arith}
use Rattle.eb_rule_text.specs.declared.lexemes.Lexeme.TheVariants as l
use Rattle.eb_rule_text.specs.declared.marks.Mark.TheVariants as m
use Rattle.eb_rule_text.specs.declared.trees.Context.{Context}
use Rattle.eb_rule_text.specs.declared.trees.Context.TheVariants as c
use Rattle.eb_rule_text.specs.declared.trees.Expr.{Expr}
use Rattle.eb_rule_text.specs.declared.trees.Init.{Init}
use Rattle.eb_rule_text.specs.declared.trees.Add.{Add}
use Rattle.eb_rule_text.specs.declared.trees.Stmt.{Stmt}
use Rattle.eb_rule_text.specs.declared.trees.Stmt.TheVariants as s
use Rattle.eb_rule_text.specs.Tokens.{Text}
use Rattle.eb_rule_text.specs.Input.{Input, sees, expect, eat, same_mark, name, until_brace}
use Rattle.eb_rule_text.specs.Reading.{expression}
use Rattle.eb_rule_text.specs.Blocks as spec
use Rattle.eb_rule_text.specs.Grammar.{EndInits, last_init, one_init, AreInits, no_init, some_init, IsAdd, added, EndAdds, no_add, one_add, IsStmt, a_let, an_add, an_extra, an_if, an_else, EndStmts, no_stmt, one_stmt}
use Rattle.eb_rule_text.proofs.Levels.{stmt_is}
use Rattle.eb_rule_text.proofs.Takes.{opens_is, eat_is, eat_not, until_stop, until_go}
use Rattle.eb_rule_text.proofs.CompleteExprs.{level_takes, expression_is}

room : (d : ℕ) → 0 < suc d
room d = omega arith

-- ---- inits

init_step : (context : Context) (d : ℕ) (i k : Input) (field : Text) (x : Expr) → expression context d i ≡ Ok (x, k) → spec.init context (suc d) (l.Name field ∷ l.Mark m.Colon ∷ i) ≡ Ok (spec.init_of field x, k)
unfolding spec.init name expect sees same_mark
init_step context d i k field x h = rw h refl

last_step : (context : Context) (d n : ℕ) (done : List Init) (i j : Input) (x : Init) → spec.init context (suc d) i ≡ Ok (x, l.Mark m.RBrace ∷ j) → spec.inits_from context (suc d) (suc n) done i ≡ Ok (done ++ x ∷ [], j)
unfolding eat expect sees same_mark
last_step context d n done i j x h = rw h refl

one_step : (context : Context) (d n : ℕ) (done : List Init) (i k : Input) (x : Init) → spec.init context (suc d) i ≡ Ok (x, l.Mark m.Comma ∷ k) → spec.inits_from context (suc d) (suc n) done i ≡ spec.inits_from context (suc d) n (done ++ x ∷ []) k
unfolding eat sees same_mark
one_step context d n done i k x h = rw h refl

end_inits_take : {context : Context} {d : ℕ} {i j : Input} {x : List Init} → EndInits context d i x j → length x + length j < length i
end_inits_take (last_init is) = let a = level_takes is in omega arith
end_inits_take (one_init is more) = let a = level_takes is in let b = end_inits_take more in omega arith

end_inits_are : {context : Context} {d : ℕ} {i j : Input} {x : List Init} → EndInits context d i x j → (n : ℕ) (done : List Init) → length x ≤ n → spec.inits_from context (suc d) n done i ≡ Ok (done ++ x, j)
end_inits_are (last_init is) zero done few = absurd (omega arith)
end_inits_are {context = context} {d = d} {j = j} (last_init {i = i} {field = field} {x = x} is) (suc n) done few =
    last_step context d n done _ j (spec.init_of field x) (init_step context d i (l.Mark m.RBrace ∷ j) field x (expression_is is (λ _ _. refl)))
end_inits_are (one_init is more) zero done few = absurd (omega arith)
end_inits_are {context = context} {d = d} {j = j} (one_init {i = i} {k = k} {field = field} {x = x} {more = rest} is more) (suc n) done few =
    one_step context d n done _ k (spec.init_of field x) (init_step context d i (l.Mark m.Comma ∷ k) field x (expression_is is (λ _ _. refl)))
    ∙ end_inits_are more n (done ++ spec.init_of field x ∷ []) (omega arith) ∙ ap (λ y. Ok (y, j)) (append_assoc done (spec.init_of field x ∷ []) rest)

no_init_step : (context : Context) (d : ℕ) (j : Input) → spec.inits context (suc d) (l.Mark m.LBrace ∷ l.Mark m.RBrace ∷ j) ≡ Ok ([], j)
unfolding spec.inits eat sees same_mark
no_init_step context d j = rw (opens_is (suc d) m.LBrace (l.Mark m.RBrace ∷ j) (room d)) refl

some_init_step : (context : Context) (d : ℕ) (i j : Input) (x : List Init) → sees m.RBrace i ≡ false → spec.inits_from context (suc d) (length i) [] i ≡ Ok (x, j) → spec.inits context (suc d) (l.Mark m.LBrace ∷ i) ≡ Ok (x, j)
unfolding spec.inits spec.some_inits
some_init_step context d i j x h g = rw (opens_is (suc d) m.LBrace i (room d), eat_not m.RBrace i h) g

end_inits_begin : {context : Context} {d : ℕ} {i j : Input} {x : List Init} → EndInits context d i x j → sees m.RBrace i ≡ false
unfolding sees
end_inits_begin (last_init is) = refl
end_inits_begin (one_init is more) = refl

pub inits_are : {context : Context} {d : ℕ} {i j : Input} {x : List Init} → AreInits context d i x j → spec.inits context d i ≡ Ok (x, j)
inits_are {context = context} {j = j} (no_init {d = d}) = no_init_step context d j
inits_are {context = context} {j = j} {x = x} (some_init {d = d} {i = i} are) =
    let a = end_inits_take are in some_init_step context d i j x (end_inits_begin are) (end_inits_are are (length i) [] (omega arith))

pub inits_take : {context : Context} {d : ℕ} {i j : Input} {x : List Init} → AreInits context d i x j → length j < length i
inits_take no_init = omega arith
inits_take (some_init are) = let a = end_inits_take are in omega arith

-- ---- adds

add_step : (context : Context) (d : ℕ) (i j : Input) (kind : Text) (values : List Init) → spec.inits context d i ≡ Ok (values, j) → spec.add context d (l.Mark m.Add ∷ l.Name kind ∷ i) ≡ Ok (spec.add_of kind values, j)
unfolding spec.add name expect sees same_mark
add_step context d i j kind values h = rw h refl

add_is : {context : Context} {d : ℕ} {i j : Input} {x : Add} → IsAdd context d i x j → spec.add context d i ≡ Ok (x, j)
add_is {context = context} {d = d} {j = j} (added {i = i} {kind = kind} {values = values} are) = add_step context d i j kind values (inits_are are)

pub add_takes : {context : Context} {d : ℕ} {i j : Input} {x : Add} → IsAdd context d i x j → length j < length i
add_takes (added are) = let a = inits_take are in omega arith

add_begins : {context : Context} {d : ℕ} {i j : Input} {x : Add} → IsAdd context d i x j → (sees m.RBrace i ≡ false) × (sees m.Else i ≡ false)
unfolding sees same_mark
add_begins (added are) = (refl, refl)

end_adds_take : {context : Context} {d : ℕ} {i j : Input} {x : List Add} → EndAdds context d i x j → length x + length j < length i
end_adds_take no_add = omega arith
end_adds_take (one_add is more) = let a = add_takes is in let b = end_adds_take more in omega arith

end_adds_are : {context : Context} {d : ℕ} {i j : Input} {x : List Add} → EndAdds context d i x j → (n : ℕ) (done : List Add) → length x < n → until_brace (spec.add context d) n done i ≡ Ok (done ++ x, j)
end_adds_are no_add zero done few = absurd (omega arith)
end_adds_are {context = context} {d = d} {j = j} no_add (suc n) done few = until_stop (spec.add context d) n done j ∙ ap (λ y. Ok (y, j)) (sym (append-nil done))
end_adds_are (one_add is more) zero done few = absurd (omega arith)
end_adds_are {context = context} {d = d} {i = i} {j = j} (one_add {k = k} {x = x} {more = rest} is more) (suc n) done few =
    until_go (spec.add context d) n done i k x (add_begins is).0 (add_is is) ∙ end_adds_are more n (done ++ x ∷ []) (omega arith) ∙ ap (λ y. Ok (y, j)) (append_assoc done (x ∷ []) rest)

adds_step : (context : Context) (d : ℕ) (i j : Input) (x : List Add) → until_brace (spec.add context d) (length i) [] i ≡ Ok (x, j) → spec.adds context (suc d) (l.Mark m.LBrace ∷ i) ≡ Ok (x, j)
unfolding spec.adds
adds_step context d i j x h = rw (opens_is (suc d) m.LBrace i (room d)) h

adds_are : {context : Context} {d : ℕ} {i j : Input} {x : List Add} → EndAdds context d i x j → spec.adds context (suc d) (l.Mark m.LBrace ∷ i) ≡ Ok (x, j)
adds_are {context = context} {d = d} {i = i} {j = j} {x = x} are = let a = end_adds_take are in adds_step context d i j x (end_adds_are are (length i) [] (omega arith))

-- ---- statements

mutual
  pub stmt_takes : {context : Context} {d : ℕ} {i j : Input} {x : Stmt} → IsStmt context d i x j → length j < length i
  stmt_takes (a_let is) = let a = level_takes is in omega arith
  stmt_takes (an_add is) = add_takes is
  stmt_takes (an_extra are) = let a = end_adds_take are in omega arith
  stmt_takes (an_if is are) = let a = level_takes is in let b = end_stmts_take are in omega arith
  stmt_takes (an_else is are more) = let a = level_takes is in let b = end_stmts_take are in let n = end_stmts_take more in omega arith

  pub end_stmts_take : {context : Context} {d : ℕ} {i j : Input} {x : List Stmt} → EndStmts context d i x j → length x + length j < length i
  end_stmts_take no_stmt = omega arith
  end_stmts_take (one_stmt is more) = let a = stmt_takes is in let b = end_stmts_take more in omega arith

stmt_begins : {context : Context} {d : ℕ} {i j : Input} {x : Stmt} → IsStmt context d i x j → (sees m.RBrace i ≡ false) × (sees m.Else i ≡ false)
unfolding sees same_mark
stmt_begins (a_let is) = (refl, refl)
stmt_begins (an_add is) = add_begins is
stmt_begins (an_extra are) = (refl, refl)
stmt_begins (an_if is are) = (refl, refl)
stmt_begins (an_else is are more) = (refl, refl)

brace_no_else : (j : Input) → sees m.Else (l.Mark m.RBrace ∷ j) ≡ false
unfolding sees same_mark
brace_no_else j = refl

end_no_else : {context : Context} {d : ℕ} {i j : Input} {x : List Stmt} → EndStmts context d i x j → sees m.Else i ≡ false
end_no_else {j = j} no_stmt = brace_no_else j
end_no_else (one_stmt is more) = (stmt_begins is).1

let_step : (context : Context) (d : ℕ) (i j : Input) (x : Text) (value : Expr) → expression context d i ≡ Ok (value, l.Mark m.Semicolon ∷ j)
    → spec.stmt context d (l.Mark m.Let ∷ l.Name x ∷ l.Mark m.Assign ∷ i) ≡ Ok (s.Let x value, j)
unfolding spec.one_stmt spec.let_stmt name expect sees same_mark
let_step context d i j x value h = rw (stmt_is context d, h) refl

add_stmt_step : (context : Context) (d : ℕ) (i j : Input) (x : Add) → spec.add context d (l.Mark m.Add ∷ i) ≡ Ok (x, j) → spec.stmt context d (l.Mark m.Add ∷ i) ≡ Ok (s.Add x, j)
unfolding spec.one_stmt
add_stmt_step context d i j x h = rw (stmt_is context d, h) refl

add_stmt_is : {context : Context} {d : ℕ} {i j : Input} {x : Add} → IsAdd context d i x j → spec.stmt context d i ≡ Ok (s.Add x, j)
add_stmt_is {context = context} {d = d} {j = j} {x = x} (added {i = i} {kind = kind} {values = values} are) =
    add_stmt_step context d (l.Name kind ∷ i) j (spec.add_of kind values) (add_step context d i j kind values (inits_are are))

extra_step : (d : ℕ) (i j : Input) (x : Text) (body : List Add) → spec.adds c.Baker (suc d) (l.Mark m.LBrace ∷ i) ≡ Ok (body, j)
    → spec.stmt c.Baker (suc d) (l.Mark m.Extra ∷ l.Name x ∷ l.Mark m.LBrace ∷ i) ≡ Ok (s.Extra x body, j)
unfolding spec.one_stmt spec.extra name expect sees same_mark
extra_step d i j x body h = rw h refl

pub block_step : (context : Context) (d : ℕ) (i j : Input) (x : List Stmt) → until_brace (spec.stmt context d) (length i) [] i ≡ Ok (x, j) → spec.block context (suc d) (spec.stmt context d) (l.Mark m.LBrace ∷ i) ≡ Ok (x, j)
unfolding spec.block
block_step context d i j x h = rw (opens_is (suc d) m.LBrace i (room d)) h

fewer : (a b n : ℕ) → a + b < n → a < n
fewer a b n h = omega arith

if_step : (context : Context) (d : ℕ) (i k j : Input) (test : Expr) (body : List Stmt) → expression context (suc d) i ≡ Ok (test, l.Mark m.LBrace ∷ k)
    → spec.block context (suc d) (spec.stmt context d) (l.Mark m.LBrace ∷ k) ≡ Ok (body, j) → eat m.Else j ≡ Ok (false, j)
    → spec.stmt context (suc d) (l.Mark m.If ∷ i) ≡ Ok (s.If test body None, j)
unfolding spec.one_stmt spec.if_stmt spec.otherwise expect sees same_mark
if_step context d i k j test body h g n = rw (h, g, n) refl

else_step : (context : Context) (d : ℕ) (i k n j : Input) (test : Expr) (body other : List Stmt) → expression context (suc d) i ≡ Ok (test, l.Mark m.LBrace ∷ k)
    → spec.block context (suc d) (spec.stmt context d) (l.Mark m.LBrace ∷ k) ≡ Ok (body, l.Mark m.Else ∷ n) → eat m.Else (l.Mark m.Else ∷ n) ≡ Ok (true, n)
    → spec.block context (suc d) (spec.stmt context d) n ≡ Ok (other, j) → spec.stmt context (suc d) (l.Mark m.If ∷ i) ≡ Ok (s.If test body (Some other), j)
unfolding spec.one_stmt spec.if_stmt spec.otherwise expect sees same_mark
else_step context d i k n j test body other h g e o = rw (h, g, e, o) refl

mutual
  stmt_read : {context : Context} {d : ℕ} {i j : Input} {x : Stmt} → IsStmt context d i x j → sees m.Else j ≡ false → spec.stmt context d i ≡ Ok (x, j)
  stmt_read {context = context} {d = d} {j = j} (a_let {i = i} {x = x} {value = value} is) other_word = let_step context d i j x value (expression_is is (λ _ _. refl))
  stmt_read (an_add is) other_word = add_stmt_is is
  stmt_read {j = j} (an_extra {d = d} {i = i} {x = x} {body = body} are) other_word = extra_step d i j x body (adds_are are)
  stmt_read {context = context} {j = j} (an_if {d = d} {i = i} {k = k} {test = test} {body = body} is are) other_word =
      if_step context d i k j test body (expression_is is (λ _ _. refl)) (block_step context d k j body (stmts_are are (length k) [] (fewer (length body) (length j) (length k) (end_stmts_take are)))) (eat_not m.Else j other_word)
  stmt_read {context = context} {j = j} (an_else {d = d} {i = i} {k = k} {n = n} {test = test} {body = body} {other = other} is are more) other_word =
      else_step context d i k (l.Mark m.LBrace ∷ n) j test body other (expression_is is (λ _ _. refl))
      (block_step context d k (l.Mark m.Else ∷ l.Mark m.LBrace ∷ n) body (stmts_are are (length k) [] (fewer (length body) (length (l.Mark m.Else ∷ l.Mark m.LBrace ∷ n)) (length k) (end_stmts_take are))))
      (eat_is m.Else (l.Mark m.LBrace ∷ n)) (block_step context d n j other (stmts_are more (length n) [] (fewer (length other) (length j) (length n) (end_stmts_take more))))

  stmts_are : {context : Context} {d : ℕ} {i j : Input} {x : List Stmt} → EndStmts context d i x j → (n : ℕ) (done : List Stmt) → length x < n → until_brace (spec.stmt context d) n done i ≡ Ok (done ++ x, j)
  stmts_are no_stmt zero done few = absurd (omega arith)
  stmts_are {context = context} {d = d} {j = j} no_stmt (suc n) done few = until_stop (spec.stmt context d) n done j ∙ ap (λ y. Ok (y, j)) (sym (append-nil done))
  stmts_are (one_stmt is more) zero done few = absurd (omega arith)
  stmts_are {context = context} {d = d} {i = i} {j = j} (one_stmt {k = k} {x = x} {more = rest} is more) (suc n) done few =
      until_go (spec.stmt context d) n done i k x (stmt_begins is).0 (stmt_read is (end_no_else more)) ∙ stmts_are more n (done ++ x ∷ []) (omega arith) ∙ ap (λ y. Ok (y, j)) (append_assoc done (x ∷ []) rest)

pub block_are : {context : Context} {d : ℕ} {i j : Input} {x : List Stmt} → EndStmts context d i x j → spec.block context (suc d) (spec.stmt context d) (l.Mark m.LBrace ∷ i) ≡ Ok (x, j)
block_are {context = context} {d = d} {i = i} {j = j} {x = x} are = block_step context d i j x (stmts_are are (length i) [] (fewer (length x) (length j) (length i) (end_stmts_take are)))

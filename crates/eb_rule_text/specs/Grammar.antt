-- The grammar, apart from the reader: between a list of tokens and the tokens behind stands what was read. A number `d` says how
-- many levels may still be opened.
use Rattle.std.specs.Prelude.{◌≡◌, ◌≤◌, ◌<◌, ℕ, zero, suc, ℤ, true, List, [], ◌∷◌, Some, None}
use Rattle.eb_rule_text.specs.declared.trees.{Context.Context, FieldPath.FieldPath, Find.Find, Read.Read, Op.Op, Link.Link, Expr.Expr, Init.Init, Add.Add}
use Rattle.eb_rule_text.specs.declared.trees.{Stmt.Stmt, Query.Query, Rule.Rule, RulesTree.RulesTree, Target.Target, Command.Command, JobTree.JobTree}
use Rattle.eb_rule_text.specs.declared.marks.Mark.{Mark}
use Rattle.eb_rule_text.specs.declared.lexemes.Lexeme.TheVariants as l
use Rattle.eb_rule_text.specs.declared.marks.Mark.TheVariants as m
use Rattle.eb_rule_text.specs.declared.trees.Context.TheVariants as c
use Rattle.eb_rule_text.specs.declared.trees.Expr.TheVariants as e
use Rattle.eb_rule_text.specs.declared.trees.Stmt.TheVariants as s
use Rattle.eb_rule_text.specs.declared.trees.Rule.TheVariants as a_rule
use Rattle.eb_rule_text.specs.declared.trees.Target.TheVariants as a_target
use Rattle.eb_rule_text.specs.declared.trees.Command.TheVariants as a_command
use Rattle.eb_rule_text.specs.{Tokens.Text, Input.Input}
use Rattle.eb_rule_text.specs.Reading.{op_at, link_of, chain, found_of}
use Rattle.eb_rule_text.specs.Blocks.{init_of, add_of, query_of, baker_of, system_of, job_of}
use Rattle.eb_rule_text.specs.Spelled.{find_then, has_find, read_then, has_read, read_levels, link_in_then}

-- ---- reads

pub record IsFind (context : Context) (d : ℕ) (i : Input) (x : Find) (j : Input) : Type 0 where
  pub stands : has_find context x ≡ true
  pub room : 0 < d
  pub tokens : i ≡ find_then x j

pub record IsRead (context : Context) (d : ℕ) (i : Input) (x : Read) (j : Input) : Type 0 where
  pub stands : has_read context x ≡ true
  pub room : read_levels x ≤ d
  pub tokens : i ≡ read_then x j

-- reads each of which goes on with `or`
pub data AreFinds : Context → ℕ → Input → List Find → Input → Type 0 where
  no_find : {context : Context} {d : ℕ} {i : Input} → AreFinds context d i [] i
  a_find : {context : Context} {d : ℕ} {i k j : Input} {x : Find} {more : List Find}
      → IsFind context d i x (l.Mark m.Or ∷ k) → AreFinds context d k more j → AreFinds context d i (x ∷ more) j

-- ---- expressions

mutual
  -- operands of the level below with operators of this level between them; level 5 is a whole expression
  pub data IsLevel : Context → ℕ → ℕ → Input → Expr → Input → Type 0 where
    tightest : {context : Context} {d : ℕ} {i j : Input} {x : Expr} → IsUnary context d i x j → IsLevel context zero d i x j
    chained : {context : Context} {n d : ℕ} {i k j : Input} {first : Expr} {more : List (Link Expr)}
        → IsLevel context n d i first k → AreLinks context n d k more j → IsLevel context (suc n) d i (chain first more) j

  -- comparisons, the level 2, don't follow one another
  pub data AreLinks : Context → ℕ → ℕ → Input → List (Link Expr) → Input → Type 0 where
    no_link : {context : Context} {n d : ℕ} {i : Input} → AreLinks context n d i [] i
    a_link : {context : Context} {n d : ℕ} {i k j : Input} {mark : Mark} {o : Op} {x : Expr} {more : List (Link Expr)}
        → op_at n (Some mark) ≡ Some o → IsLevel context n d i x k → AreLinks context n d k more j → (n ≡ 2 → more ≡ [])
        → AreLinks context n d (l.Mark mark ∷ i) (link_of o x ∷ more) j

  pub data IsUnary : Context → ℕ → Input → Expr → Input → Type 0 where
    negated : {context : Context} {d : ℕ} {i j : Input} {x : Expr} → IsUnary context d i x j → IsUnary context (suc d) (l.Mark m.Minus ∷ i) (e.Negate x) j
    inverted : {context : Context} {d : ℕ} {i j : Input} {x : Expr} → IsUnary context d i x j → IsUnary context (suc d) (l.Mark m.Not ∷ i) (e.Not x) j
    plain : {context : Context} {d : ℕ} {i k j : Input} {found : List Find} {x : Expr}
        → AreFinds context d i found k → IsAtom context d k x j → IsUnary context d i (found_of found x) j

  pub data IsAtom : Context → ℕ → Input → Expr → Input → Type 0 where
    an_int : {context : Context} {d : ℕ} {n : ℤ} {j : Input} → IsAtom context d (l.Int n ∷ j) (e.Int n) j
    a_fix : {context : Context} {d : ℕ} {n : ℤ} {j : Input} → IsAtom context d (l.Fix n ∷ j) (e.Fix n) j
    a_name : {context : Context} {d : ℕ} {x : Text} {j : Input} → IsAtom context d (l.Name x ∷ j) (e.Name x) j
    a_true : {context : Context} {d : ℕ} {j : Input} → IsAtom context d (l.Mark m.True ∷ j) e.True j
    a_false : {context : Context} {d : ℕ} {j : Input} → IsAtom context d (l.Mark m.False ∷ j) e.False j
    a_null : {context : Context} {d : ℕ} {j : Input} → IsAtom context d (l.Mark m.Null ∷ j) e.Null j
    in_parens : {context : Context} {d : ℕ} {i j : Input} {x : Expr}
        → IsLevel context 5 d i x (l.Mark m.RParen ∷ j) → IsAtom context (suc d) (l.Mark m.LParen ∷ i) (e.Paren x) j
    to_fix : {context : Context} {d : ℕ} {i j : Input} {x : Expr}
        → IsLevel context 5 d i x (l.Mark m.RParen ∷ j) → IsAtom context (suc d) (l.Mark m.Fix ∷ l.Mark m.LParen ∷ i) (e.ToFix x) j
    to_int : {context : Context} {d : ℕ} {i j : Input} {x : Expr}
        → IsLevel context 5 d i x (l.Mark m.RParen ∷ j) → IsAtom context (suc d) (l.Mark m.Int ∷ l.Mark m.LParen ∷ i) (e.ToInt x) j
    a_read : {context : Context} {d : ℕ} {i j : Input} {x : Read} → IsRead context d i x j → IsAtom context d i (e.Read x) j

abbrev pub IsExpr : Context → ℕ → Input → Expr → Input → Type 0
IsExpr context = IsLevel context 5

-- ---- statements

-- f : e , .. }
pub data EndInits : Context → ℕ → Input → List Init → Input → Type 0 where
  last_init : {context : Context} {d : ℕ} {i j : Input} {field : Text} {x : Expr}
      → IsExpr context d i x (l.Mark m.RBrace ∷ j) → EndInits context d (l.Name field ∷ l.Mark m.Colon ∷ i) (init_of field x ∷ []) j
  one_init : {context : Context} {d : ℕ} {i k j : Input} {field : Text} {x : Expr} {more : List Init}
      → IsExpr context d i x (l.Mark m.Comma ∷ k) → EndInits context d k more j → EndInits context d (l.Name field ∷ l.Mark m.Colon ∷ i) (init_of field x ∷ more) j

-- { f : e , .. }
pub data AreInits : Context → ℕ → Input → List Init → Input → Type 0 where
  no_init : {context : Context} {d : ℕ} {j : Input} → AreInits context (suc d) (l.Mark m.LBrace ∷ l.Mark m.RBrace ∷ j) [] j
  some_init : {context : Context} {d : ℕ} {i j : Input} {values : List Init}
      → EndInits context d i values j → AreInits context (suc d) (l.Mark m.LBrace ∷ i) values j

-- add T { .. }
pub data IsAdd : Context → ℕ → Input → Add → Input → Type 0 where
  added : {context : Context} {d : ℕ} {i j : Input} {kind : Text} {values : List Init}
      → AreInits context d i values j → IsAdd context d (l.Mark m.Add ∷ l.Name kind ∷ i) (add_of kind values) j

-- add .. }
pub data EndAdds : Context → ℕ → Input → List Add → Input → Type 0 where
  no_add : {context : Context} {d : ℕ} {j : Input} → EndAdds context d (l.Mark m.RBrace ∷ j) [] j
  one_add : {context : Context} {d : ℕ} {i k j : Input} {x : Add} {more : List Add}
      → IsAdd context d i x k → EndAdds context d k more j → EndAdds context d i (x ∷ more) j

mutual
  pub data IsStmt : Context → ℕ → Input → Stmt → Input → Type 0 where
    a_let : {context : Context} {d : ℕ} {i j : Input} {x : Text} {value : Expr}
        → IsExpr context d i value (l.Mark m.Semicolon ∷ j) → IsStmt context d (l.Mark m.Let ∷ l.Name x ∷ l.Mark m.Assign ∷ i) (s.Let x value) j
    an_add : {context : Context} {d : ℕ} {i j : Input} {x : Add} → IsAdd context d i x j → IsStmt context d i (s.Add x) j
    an_extra : {d : ℕ} {i j : Input} {x : Text} {body : List Add}
        → EndAdds c.Baker d i body j → IsStmt c.Baker (suc d) (l.Mark m.Extra ∷ l.Name x ∷ l.Mark m.LBrace ∷ i) (s.Extra x body) j
    an_if : {context : Context} {d : ℕ} {i k j : Input} {test : Expr} {body : List Stmt}
        → IsExpr context (suc d) i test (l.Mark m.LBrace ∷ k) → EndStmts context d k body j
        → IsStmt context (suc d) (l.Mark m.If ∷ i) (s.If test body None) j
    an_else : {context : Context} {d : ℕ} {i k n j : Input} {test : Expr} {body other : List Stmt}
        → IsExpr context (suc d) i test (l.Mark m.LBrace ∷ k) → EndStmts context d k body (l.Mark m.Else ∷ l.Mark m.LBrace ∷ n) → EndStmts context d n other j
        → IsStmt context (suc d) (l.Mark m.If ∷ i) (s.If test body (Some other)) j

  -- statements and a closing brace
  pub data EndStmts : Context → ℕ → Input → List Stmt → Input → Type 0 where
    no_stmt : {context : Context} {d : ℕ} {j : Input} → EndStmts context d (l.Mark m.RBrace ∷ j) [] j
    one_stmt : {context : Context} {d : ℕ} {i k j : Input} {x : Stmt} {more : List Stmt}
        → IsStmt context d i x k → EndStmts context d k more j → EndStmts context d i (x ∷ more) j

-- ---- queries

pub data AreNames : Input → List Text → Input → Type 0 where
  no_name : {i : Input} → AreNames i [] i
  one_name : {i j : Input} {x : Text} {more : List Text} → AreNames i more j → AreNames (l.Name x ∷ i) (x ∷ more) j

-- a word and one name at least, or nothing
pub data IsList : Mark → Input → List Text → Input → Type 0 where
  unwritten : {word : Mark} {i : Input} → IsList word i [] i
  written : {word : Mark} {i j : Input} {x : Text} {more : List Text} → AreNames i more j → IsList word (l.Mark word ∷ l.Name x ∷ i) (x ∷ more) j

pub data IsQuery : Input → Query → Input → Type 0 where
  queried : {i k n j : Input} {all any none : List Text}
      → IsList m.All i all k → IsList m.Any k any n → IsList m.None n none j → IsQuery i (query_of all any none) j

-- ---- rules

pub data IsRule : Input → Rule → Input → Type 0 where
  a_baker : {i j : Input} {n : ℤ} {kind : Text} {body : List Stmt}
      → EndStmts c.Baker 31 i body j
      → IsRule (l.Mark m.Baker ∷ l.Int n ∷ l.Mark m.On ∷ l.Name kind ∷ l.Mark m.LBrace ∷ i) (a_rule.Baker (baker_of n kind body)) j
  a_system : {i k j : Input} {n : ℤ} {asked : Query} {body : List Stmt}
      → IsQuery i asked (l.Mark m.LBrace ∷ k) → EndStmts c.System 31 k body j
      → IsRule (l.Mark m.System ∷ l.Int n ∷ i) (a_rule.System (system_of n asked body)) j

pub data AreRules : Input → List Rule → Type 0 where
  no_rule : AreRules [] []
  one_rule : {i k : Input} {x : Rule} {more : List Rule} → IsRule i x k → AreRules k more → AreRules i (x ∷ more)

-- a whole text of rules
abbrev pub IsRules : Input → RulesTree → Type 0
IsRules i tree = AreRules i tree.rules

-- ---- jobs

pub data IsTarget : ℕ → Input → Target → Input → Type 0 where
  at_this : {d : ℕ} {j : Input} → IsTarget d (l.Mark m.This ∷ j) a_target.This j
  at_name : {d : ℕ} {x : Text} {j : Input} → IsTarget d (l.Name x ∷ j) (a_target.Name x) j
  at_link : {d : ℕ} {p : FieldPath} {j : Input} → IsTarget (suc d) (l.Mark m.At ∷ link_in_then p j) (a_target.At p) j

pub data IsCommand : ℕ → Input → Command → Input → Type 0 where
  created : {d : ℕ} {x : Text} {j : Input} → IsCommand d (l.Mark m.Create ∷ l.Name x ∷ j) (a_command.Create x) j
  destroyed : {d : ℕ} {on : Target} {i j : Input} → IsTarget d i on j → IsCommand d (l.Mark m.Destroy ∷ i) (a_command.Destroy on) j
  removed : {d : ℕ} {on : Target} {kind : Text} {i j : Input}
      → IsTarget d i on (l.Name kind ∷ j) → IsCommand d (l.Mark m.Remove ∷ i) (a_command.Remove on kind) j
  added_to : {d : ℕ} {on : Target} {kind : Text} {values : List Init} {i k j : Input}
      → IsTarget d i on (l.Name kind ∷ k) → AreInits c.Job d k values j → IsCommand d (l.Mark m.Add ∷ i) (a_command.Add on kind values) j
  set_to : {d : ℕ} {on : Target} {kind : Text} {values : List Init} {i k j : Input}
      → IsTarget d i on (l.Name kind ∷ k) → AreInits c.Job d k values j → IsCommand d (l.Mark m.Set ∷ i) (a_command.Set on kind values) j

-- commands and a closing brace
pub data EndCommands : Input → List Command → Input → Type 0 where
  no_command : {j : Input} → EndCommands (l.Mark m.RBrace ∷ j) [] j
  one_command : {i k j : Input} {x : Command} {more : List Command} → IsCommand 31 i x k → EndCommands k more j → EndCommands i (x ∷ more) j

-- a whole text of a job
pub data IsJob : Input → JobTree → Type 0 where
  a_job : {i k n : Input} {asked : Query} {key : Expr} {list : List Command}
      → IsQuery i asked (l.Mark m.Key ∷ k) → IsExpr c.Job 32 k key (l.Mark m.LBrace ∷ n) → EndCommands n list []
      → IsJob (l.Mark m.Job ∷ i) (job_of asked key list)

-- Names and types of jobs, and what they are resolved to.
use Rattle.std.specs.Prelude.{ℕ, ◌+◌, not, nat_le, List, [], ◌∷◌, ◌++◌, drop, Some, Ok}
use Rattle.eb_rule_text.specs.declared.trees.{Init.Init, Target.Target, Command.Command, JobTree.JobTree}
use Rattle.eb_rule_text.specs.declared.trees.Context.TheVariants as c
use Rattle.eb_rule_text.specs.declared.trees.Target.TheVariants as a_target
use Rattle.eb_rule_text.specs.declared.trees.Command.TheVariants as a_command
use Rattle.eb_rule_text.specs.{Input.Input, Spelled.target_then, Counts.target_tokens, Blocks.job, Passes.read_text}
use Rattle.eb_schema.specs.Schemas.{Types, component_named}
use Rattle.eb_rules.specs.declared.faults.RuleKind.TheVariants.{UnknownName, TypeFault, NameTaken, TooMany}
use Rattle.eb_rules.specs.declared.plans.{Addition.Addition, Aim.Aim, JobPlan.JobPlan, Order.Order, Term.Term}
use Rattle.eb_rules.specs.declared.scopes.{Visible.Visible}
use Rattle.eb_rules.specs.declared.queries.Query3.{Query3}
use Rattle.eb_rules.specs.declared.plans.Aim.TheVariants as an_aim
use Rattle.eb_rules.specs.declared.plans.Order.TheVariants as an_order
use Rattle.eb_rules.specs.declared.scopes.Bound.TheVariants as bound
use Rattle.eb_rules.specs.declared.shapes.Shape.TheVariants as shape
use Rattle.eb_rules.specs.{Shapes.is_ref, Queries.query_typed, Queries.meant}
use Rattle.eb_rules.specs.Scopes.{Text, Where, place_of, as_entity}
use Rattle.eb_rules.specs.Typing.{Places, Found, Walked, required, tested, and_found, asked, at_name, visible}
use Rattle.eb_rules.specs.Statements.{fitted, is_free, values_typed}

-- ---- targets

-- the names at their places in the target's own spelling
abbrev pub aim_typed : Where → Target → Input → Places → Found Aim
aim_typed w a_target.This i p = Ok an_aim.This
aim_typed w (a_target.Name x) i p = and_found (visible as_entity w x p) (λ s. Ok (an_aim.Created (place_of x w.known)))
aim_typed w (a_target.At x) i p = and_found (asked w x (at_name 0 i p) (at_name 1 i p)) (λ y. and_found (tested TypeFault (is_ref y.field.kind) p) (λ u.
    Ok (an_aim.At y)))

abbrev pub aim_walk : Where → Target → Places → Found Aim
aim_walk w x p = aim_typed w x (target_then x []) p

abbrev pub target_typed : Where → Target → Places → Walked Aim
target_typed w x p = and_found (aim_walk w x p) (λ y. Ok (y, drop (target_tokens x) p))

-- ---- commands

-- T { .. }
abbrev pub filled : Where → Text → List Init → Places → Walked Addition
filled w kind inits p = and_found (required UnknownName (component_named w.types kind) p) (λ n. values_typed w n inits (drop 1 p))

-- a command, of which each part is tested in the order of the text
abbrev pub command_typed : Where → Command → Places → Walked Order
command_typed w (a_command.Create x) p = and_found (tested NameTaken (is_free x w.known) (drop 1 p)) (λ u. Ok (an_order.Create, drop 2 p))
command_typed w (a_command.Destroy on) p = and_found (target_typed w on (drop 1 p)) (λ y. Ok (an_order.Destroy y.0, y.1))
command_typed w (a_command.Remove on kind) p = and_found (target_typed w on (drop 1 p)) (λ y.
    and_found (required UnknownName (component_named w.types kind) y.1) (λ n. Ok (an_order.Remove y.0 n, drop 1 y.1)))
command_typed w (a_command.Add on kind inits) p = and_found (target_typed w on (drop 1 p)) (λ y. and_found (filled w kind inits y.1) (λ z.
    Ok (an_order.Add y.0 z.0, z.1)))
command_typed w (a_command.Set on kind inits) p = and_found (target_typed w on (drop 1 p)) (λ y. and_found (filled w kind inits y.1) (λ z.
    Ok (an_order.Set y.0 z.0, z.1)))

abbrev pub job_scope : Types → List ℕ → List Visible → Where
job_scope types all seen = record { types = types; context = c.Job; own = []; all = all; known = seen }

-- a created name is visible in the commands behind it
abbrev pub behind_command : Command → List Visible → List Visible
behind_command (a_command.Create x) seen = seen ++ record { name = x; bound = bound.Entity } ∷ []
behind_command (a_command.Destroy on) seen = seen
behind_command (a_command.Remove on kind) seen = seen
behind_command (a_command.Add on kind inits) seen = seen
behind_command (a_command.Set on kind inits) seen = seen

-- commands, of which so many stood before: a 9th is too many
abbrev pub commands_typed : Types → List ℕ → List Command → ℕ → List Visible → List Order → Places → Walked (List Order)
commands_typed types all [] count seen done p = Ok (done, p)
commands_typed types all (x ∷ xs) count seen done p =
    and_found (tested TooMany (not (nat_le 8 count)) p) (λ u. and_found (command_typed (job_scope types all seen) x p) (λ y.
    commands_typed types all xs (count + 1) (behind_command x seen) (done ++ y.0 ∷ []) y.1))

-- ---- a whole job

abbrev pub job_plan : Query3 → Term → List Order → JobPlan
job_plan query key orders = record { query = query; key = key; orders = orders }

-- the query, then the key, then the commands
abbrev pub job_typed : Types → JobTree → Places → Walked JobPlan
job_typed types x p =
    and_found (query_typed types x.query (drop 1 p)) (λ q.
    and_found (fitted (job_scope types q.0.all []) (Some shape.Int) x.key (drop 1 q.1)) (λ k.
    and_found (commands_typed types q.0.all x.commands 0 [] [] (drop 1 k.1)) (λ y. Ok (job_plan q.0 k.0 y.0, drop 1 y.1))))

-- the job that a text says
unfoldable pub job_of : Types → Text → Found JobTree
job_of types text = meant (job_typed types) (read_text job text)

-- The line that refuses a folder: the file, and why.
use Rattle.std.specs.Prelude.{ℕ, ◌++◌, List, [], codes}
use Rattle.std.specs.Fmt.{decimal}
use Rattle.eb_schema.specs.declared.faults.SchemaFault.{SchemaFault}
use Rattle.eb_schema.specs.declared.faults.SchemaFault.TheVariants as schema
use Rattle.eb_scene_text.specs.declared.faults.ProjectFault.{ProjectFault}
use Rattle.eb_scene_text.specs.declared.faults.ProjectFault.TheVariants as project
use Rattle.eb_rules.specs.declared.faults.Refusal.{Refusal}
use Rattle.eb_rules.specs.declared.faults.RuleFault.{RuleFault}
use Rattle.eb_rules.specs.declared.faults.RuleFault.TheVariants as rules
use Rattle.eb_rules.specs.declared.faults.RuleKind.{RuleKind}
use Rattle.eb_rules.specs.declared.faults.RuleKind.TheVariants as kind
use Rattle.eb_rules.specs.Queries.{capped}
use Rattle.eb_session.specs.Replies.{edit_refusal}

-- a file that is refused, with its line feed
unfoldable pub refused_line : List ℕ → List ℕ → List ℕ
refused_line file why = codes "refused " ++ file ++ codes " " ++ why ++ codes "\n"

-- the refusal of a schema; want of memory is none
unfoldable pub schema_refusal : SchemaFault → List ℕ
schema_refusal schema.Memory = []
schema_refusal (schema.NotForm place) = codes "S1 NotForm " ++ decimal place
schema_refusal (schema.NameTaken place) = codes "S2 NameTaken " ++ decimal place
schema_refusal (schema.NumberTaken place) = codes "S3 NumberTaken " ++ decimal place
schema_refusal (schema.TooMany place) = codes "S4 TooMany " ++ decimal place
schema_refusal (schema.BadKind place) = codes "S5 BadKind " ++ decimal place
schema_refusal (schema.CopyMismatch place) = codes "S6 CopyMismatch " ++ decimal place

-- a kind of refusal of rules, by number and name
unfoldable pub kind_words : RuleKind → List ℕ
kind_words kind.Token = codes "U1 Token"
kind_words kind.Syntax = codes "U2 Syntax"
kind_words kind.UnknownName = codes "U3 UnknownName"
kind_words kind.TypeFault = codes "U4 TypeFault"
kind_words kind.NameTaken = codes "U5 NameTaken"
kind_words kind.TooMany = codes "U6 TooMany"
kind_words kind.Depth = codes "U7 Depth"

-- a refusal and its byte
unfoldable pub at_byte : List ℕ → ℕ → List ℕ
at_byte words at = words ++ codes " " ++ decimal at

-- a refusal of rules; want of memory is none
unfoldable pub rules_refusal : RuleFault → List ℕ
rules_refusal rules.Memory = []
rules_refusal (rules.At at kind) = at_byte (kind_words kind) at

-- a refusal as it is told: a byte above 4294967295 as that number
abbrev pub told_refusal : Refusal → RuleFault
told_refusal r = rules.At (capped r.at) r.kind

-- the number of an edit that is refused, and why it is
unfoldable pub rule_refusal : ℕ → List ℕ → List ℕ
rule_refusal index why = codes "Rule " ++ decimal index ++ codes " " ++ why

-- the refusal of a project: its document hasn't the form, or its edit of this number breaks a rule; want of memory is
-- none
unfoldable pub project_refusal : ProjectFault → List ℕ
project_refusal project.Memory = []
project_refusal (project.NotForm place) = codes "NotForm " ++ decimal place
project_refusal (project.Rule index fault) = rule_refusal index (edit_refusal fault)

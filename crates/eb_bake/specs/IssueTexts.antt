-- The lines that a level builder reads of what was left out.
use Rattle.std.specs.Prelude.{ℕ, List, [], ◌++◌, flat_map, codes, decimal}
use Rattle.std.specs.Option.{option_map_or}
use Rattle.eb_base.specs.declared.names.Name.{Name}
use Rattle.eb_base.specs.Names.{name_text}
use Rattle.eb_schema.specs.Schemas.{Types, component_of}
use Rattle.eb_meaning.specs.declared.values.RunFault.{RunFault}
use Rattle.eb_meaning.specs.declared.values.RunFault.TheVariants as fault
use Rattle.eb_eval.specs.declared.ids.RunId.{RunId}
use Rattle.eb_eval.specs.declared.issues.Issue.{Issue}
use Rattle.eb_eval.specs.declared.issues.Issue.TheVariants as issue

-- ---- pieces

abbrev pub fault_text : RunFault → List ℕ
fault_text fault.Overflow = codes "Overflow"
fault_text fault.DivZero = codes "DivZero"
fault_text fault.Range = codes "Range"

-- the name of a component type, nothing where the schema has none of the number
abbrev pub kind_text : Types → ℕ → List ℕ
kind_text types kind = option_map_or (λ c. c.name) (component_of types kind) []

-- SCENE.OBJECT baker B
abbrev pub run_text : RunId → List ℕ
run_text id = decimal id.scene ++ codes "." ++ decimal id.object ++ codes " baker " ++ decimal id.baker

-- system S NAME
abbrev pub system_text : ℕ → Name → List ℕ
system_text system name = codes "system " ++ decimal system ++ codes " " ++ name_text name

-- ---- one issue

abbrev pub fault_line : RunId → RunFault → List ℕ
fault_line id f = codes "fault " ++ run_text id ++ codes " " ++ fault_text f

abbrev pub duplicate_line : Types → Name → ℕ → ℕ → List ℕ
duplicate_line types name kind baker = codes "duplicate " ++ name_text name ++ codes " " ++ kind_text types kind ++ codes " baker " ++ decimal baker

abbrev pub too_many_line : Types → Name → ℕ → List ℕ
too_many_line types name kind = codes "toomany " ++ name_text name ++ codes " " ++ kind_text types kind

abbrev pub system_line : ℕ → Name → RunFault → List ℕ
system_line system name f = system_text system name ++ codes " " ++ fault_text f

abbrev pub system_too_many_line : Types → ℕ → Name → ℕ → List ℕ
system_too_many_line types system name kind = system_text system name ++ codes " toomany " ++ kind_text types kind

abbrev pub issue_text : Types → Issue → List ℕ
issue_text types (issue.Fault id f) = fault_line id f
issue_text types (issue.Duplicate name kind baker) = duplicate_line types name kind baker
issue_text types (issue.TooMany name kind) = too_many_line types name kind
issue_text types (issue.System system name f) = system_line system name f
issue_text types (issue.SystemTooMany system name kind) = system_too_many_line types system name kind

-- ---- all issues

abbrev pub issue_line : Types → Issue → List ℕ
issue_line types x = issue_text types x ++ codes "\n"

-- each issue on a line
unfoldable pub issue_lines : Types → List Issue → List ℕ
issue_lines types issues = flat_map (issue_line types) issues

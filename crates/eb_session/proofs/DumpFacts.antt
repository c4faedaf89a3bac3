-- The query that asks for nothing prints every entity.
use Rattle.std.proofs.Common.{◌≡◌, ℕ, List, [], refl, ap, ◌∙◌, sym}
use Rattle.std.specs.Prelude.{Result, Ok, Err, IfOk}
use Rattle.eb_base.specs.declared.memory.Memory.{Memory}
use Rattle.eb_query.specs.declared.queries.QueryFault.{QueryFault}
use Rattle.eb_schema.specs.Schemas.{Types}
use Rattle.eb_world.specs.Worlds.{Live}
use Rattle.eb_query.specs.EntityText.{entity_lines}
use Rattle.eb_query.specs.Queries.{Asked, matching_lines}

pub all_lines : (types : Types) (live : Live) → matching_lines (record { all = []; any = []; none = [] }) types live ≡ entity_lines types live
unfolding matching_lines entity_lines
all_lines types live = refl

same_query : (a b : Asked) → ◌≡◌ {A = Result Asked QueryFault} (Ok a) (Ok b) → a ≡ b
same_query a b same = cc

pub printed_all : (query : Asked) (types : Types) (live : Live) (printed : Result (List ℕ) Memory) → ◌≡◌ {A = Result Asked QueryFault} (Ok (record { all = []; any = []; none = [] })) (Ok query)
    → IfOk printed (λ text. text ≡ matching_lines query types live) → IfOk printed (λ text. text ≡ entity_lines types live)
printed_all query types live (Err m) made said = tt
printed_all query types live (Ok text) made said =
    said ∙ ap (λ q. matching_lines q types live) (sym (same_query (record { all = []; any = []; none = [] }) query made)) ∙ all_lines types live

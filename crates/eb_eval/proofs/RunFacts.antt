-- What a run comes to, from what its calculation gives.
use Rattle.std.proofs.Common.{◌≡◌, List, [], Ok, Err, refl, sym, ap, subst}
use Rattle.eb_scene.specs.Answers.{answer}
use Rattle.eb_scene.specs.Projects.{Content}
use Rattle.eb_scene.specs.declared.keys.Key.{Key}
use Rattle.eb_rules.specs.Kept.{Kept}
use Rattle.eb_meaning.specs.Asks.{AnEnd, Broken, End, GoesTo, Gives, asked, run}
use Rattle.eb_meaning.specs.declared.scopes.Scope.{Scope}
use Rattle.eb_meaning.specs.declared.values.RunFault.{RunFault}
use Rattle.eb_meaning.specs.declared.values.Stop.{Stop}
use Rattle.eb_meaning.specs.declared.values.Stop.TheVariants as stop
use Rattle.eb_meaning.proofs.Ended.{ended_well}
use Rattle.eb_eval.specs.declared.ids.RunId.{RunId}
use Rattle.eb_eval.specs.Copying.{copy_asks}
use Rattle.eb_eval.specs.Runs.{outcome_of, outcome_of_run, run_asks}

-- baker 0 copies
pub run_copies : (rules : Kept) (id : RunId) → id.baker ≡ 0 → run_asks rules id ≡ copy_asks rules.schema id
run_copies rules id h = rw h refl

pub run_ended : (g : Content) (rules : Kept) (id : RunId) (keys noted : List Key) (end : End) → keys ≡ [] → run (answer g) (run_asks rules id) keys ≡ Gives end noted
    → (outcome_of id (Ok end) ≡ outcome_of_run g rules id) × (noted ≡ asked (answer g) (run_asks rules id))
run_ended g rules id keys noted end empty ran =
    let e = ended_well AnEnd (answer g) (run_asks rules id) end noted (subst (λ ks. run (answer g) (run_asks rules id) ks ≡ Gives end noted) empty ran) in
    (sym (ap (outcome_of id) e.0), sym e.1)

pub run_faulted : (U : Type 0) (g : Content) (rules : Kept) (id : RunId) (keys noted : List Key) (scope : Scope) (why : Stop) (fault : RunFault) → keys ≡ []
    → GoesTo {U = U} (run (answer g) (run_asks rules id) keys) (Err why) scope noted → why ≡ stop.Fault fault
    → (outcome_of id (Ok (Broken scope fault)) ≡ outcome_of_run g rules id) × (noted ≡ asked (answer g) (run_asks rules id))
run_faulted U g rules id keys noted scope why fault empty ran is =
    run_ended g rules id keys noted (Broken scope fault) empty (subst (λ w. GoesTo {U = U} (run (answer g) (run_asks rules id) keys) (Err w) scope noted) is ran)

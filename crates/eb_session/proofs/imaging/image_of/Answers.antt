use Rattle.std.proofs.Common.{◌≡◌, ◌≤◌, true, sym, ap, ◌∙◌, arith}
use Rattle.std.specs.Prelude.{Some, option_map}
use Rattle.std.specs.FinMap.{entries, len}
use Rattle.std.proofs.lemmas.Bool.Decides.{nat_tests}
use Rattle.eb_schema.specs.Schemas.{Types}
use Rattle.eb_session.specs.Images.{has_scene_one_alone, all_rows}
use Rattle.eb_session.proofs.RowFacts.{image-there, section-there, plain-there, image-missing}
use Rattle.eb_session.proofs.imaging.image_of.Goals as goal

-- scene 1 is there alone, its entities aren't too many, and their rows are all there
alone : (c : goal.After-of) → has_scene_one_alone c.args.project.now ≡ true
alone c = grind (arith, nat_tests)

few : (c : goal.After-of) → len c.args.baked.now ≤ 65536
few c = grind (arith, nat_tests)

rows_there : (c : goal.After-of) → Some c.in-Some.rows.items ≡ all_rows c.args.project.now.schema (entries c.args.baked.now)
rows_there c = ap (option_map (λ r. r.items)) (sym c.in-Some.is) ∙ c.in_ok-rows.ensures ∙ ap (λ (t : Types). all_rows t (entries c.args.baked.now)) c.schema.ensures.schema

pub returns-in-Some-clause-image : goal.returns-in-Some-clause-image
returns-in-Some-clause-image c = rw c.of.ensures (image-there c.args.project.now c.args.baked.now c.in-Some.rows.items (few c) (alone c) (rows_there c))

pub returns-in-Some-clause-section : goal.returns-in-Some-clause-section
returns-in-Some-clause-section c = rw c.of.ensures (section-there c.args.project.now c.args.baked.now c.in-Some.rows.items (few c) (alone c) (rows_there c))

pub returns-in-Some-clause-plain : goal.returns-in-Some-clause-plain
returns-in-Some-clause-plain c = rw c.of.ensures (plain-there c.args.project.now c.args.baked.now c.in-Some.rows.items (few c) (alone c) (rows_there c))

pub returns-in-None-clause-image : goal.returns-in-None-clause-image
returns-in-None-clause-image c =
    image-missing c.args.project.now c.args.baked.now (grind (arith, nat_tests)) (grind (arith, nat_tests))
    (ap (option_map (λ r. r.items)) (sym c.in-None.is) ∙ c.in_ok-rows.ensures ∙ ap (λ (t : Types). all_rows t (entries c.args.baked.now)) c.schema.ensures.schema)

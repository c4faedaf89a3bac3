use Rattle.std.proofs.Common.{map, None, ap, ◌∙◌}
use Rattle.std.specs.FinMap.{empty}
use Rattle.eb_world.specs.declared.beings.Being.{Being}
use Rattle.eb_world.specs.declared.beings.Blank.{Blank}
use Rattle.eb_base.proofs.NameOrder.{names_total, exact_names}
use Rattle.eb_world.specs.Beings.{live_of, handles_of, shown}
use Rattle.eb_world.proofs.MapFacts.{map_values-empty}
use Rattle.eb_world.proofs.Soundness.{sound_empty}
use Rattle.eb_world.proofs.worlds.World.open.Goals as goal

pub invariant_of-result : goal.invariant_of-result
invariant_of-result c =
    sound_empty c.in_ok-copy.field-0 c.new.result c.new-2.result c.new-3.result c.new-4.result.items c.new.ensures.map c.new-2.ensures.empty c.new-4.ensures.items

pub returns : goal.returns
returns c =
    let live = ap (live_of c.in_ok-copy.field-0) c.new.ensures.map ∙ map_values-empty names_total exact_names (shown c.in_ok-copy.field-0 empty) in
    let handles = ap handles_of c.new.ensures.map ∙ map_values-empty names_total exact_names (λ (b : Being). b.entity) in
    λ i. record {
      types = c.in_ok-copy.ensures i;
      live = live i;
      handles = handles i;
      made = 0;
      spare = record { tag = None; kinds = map (λ (b : Blank). b.kinds) (c.new-4.ensures.items i) };
      order = c.new.ensures.order i;
    }

use Rattle.std.proofs.lemmas.Slice.Eq.{bytes_eq-Decides}
use Rattle.eb_schema.proofs.type_sets.TypeSet.same.Goals as goal

pub returns : goal.returns
returns c =
    let both = bytes_eq-Decides c.args.self.now c.args.other.now in
    rw (c.eq.ensures, c.items.ensures, c.items-2.ensures, c.self.view_is, c.other.view_is) both

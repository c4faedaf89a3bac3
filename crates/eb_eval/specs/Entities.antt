-- The entities of an object: their names, and what references to them mean.
use Rattle.std.specs.Prelude.{ℕ, ◌+◌, ◌*◌, min, Bool, true, false}
use Rattle.eb_base.specs.declared.names.Name.{Name}
use Rattle.eb_meaning.specs.declared.values.Link.{Link}
use Rattle.eb_meaning.specs.declared.values.Link.TheVariants as link
use Rattle.eb_eval.specs.declared.ids.RunId.{RunId}

-- the object's own entity
abbrev pub own_entity : ℕ → ℕ → Name
own_entity s n = record { play = 0; scene = s; object = n; extra = 0 }

-- which of the object's extra entities is the baker's extra of a place in its text: a baker has 16 of them, at the places 0 to 15
abbrev pub extra_number : ℕ → ℕ → ℕ
extra_number baker place = baker * 16 + min place 15 + 1

-- the extra of a place in the text of the run's baker
abbrev pub extra_entity : RunId → ℕ → Name
extra_entity id place = record { play = 0; scene = id.scene; object = id.object; extra = extra_number id.baker place }

-- a reference to an object: to its own entity where it is there, and else to none
abbrev pub link_where : Bool → ℕ → ℕ → Link
link_where true s n = link.To (own_entity s n)
link_where false s n = link.Null

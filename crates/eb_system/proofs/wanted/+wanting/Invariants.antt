use Rattle.std.proofs.Common.{◌≡◌, ◌++◌, drop}
use Rattle.eb_system.specs.Wanted.{links_wants}
use Rattle.eb_system.proofs.wanted.+wanting.Given as goal

-- those so far, and those that are left
abbrev pub invariant-links_want-loop-link : goal.invariant-links_want-loop-link
invariant-links_want-loop-link l = l.out ++ links_wants (drop l.link-index l.links) ≡ l.fn.out ++ links_wants l.fn.links

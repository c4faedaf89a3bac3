-- What the operands of a chain ask after.
use Rattle.std.proofs.Common.{◌≡◌, List, ◌++◌, ap, sym, ◌∙◌, append_assoc, rules}
use Rattle.eb_rule_text.specs.declared.trees.Link.{Link}
use Rattle.eb_rules.specs.declared.plans.Term.{Term}
use Rattle.eb_rules.specs.declared.plans.Term.TheVariants as t
use Rattle.eb_rules.specs.declared.plans.Term.TheFolds.{the_lemmas}
use Rattle.eb_system.specs.declared.wanted.Summed.{Summed}
use Rattle.eb_system.specs.Wanted.{term_wants, links_wants}

pub chain_wants : (first : Term) (more : List (Link Term)) → term_wants (t.Chain first more) ≡ term_wants first ++ links_wants more
unfolding term_wants
chain_wants first more = search (rules, the_lemmas)

pub behind_chain : (out mid now : List Summed) (first x : Term) (more links : List (Link Term)) → x ≡ first → links ≡ more → mid ≡ out ++ term_wants x → now ≡ mid ++ links_wants links → now ≡ out ++ term_wants (t.Chain first more)
behind_chain out mid now first x more links is are front behind =
    behind ∙ ap (λ xs. xs ++ links_wants links) front ∙ append_assoc out (term_wants x) (links_wants links)
    ∙ ap (λ y. out ++ (term_wants y ++ links_wants links)) is ∙ ap (λ ys. out ++ (term_wants first ++ links_wants ys)) are
    ∙ ap (λ ws. out ++ ws) (sym (chain_wants first more))

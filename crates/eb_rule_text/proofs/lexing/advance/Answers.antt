use Rattle.std.proofs.Common.{rules, ap, sym, ◌∙◌, drop, ◌+◌}
use Rattle.eb_rule_text.specs.Tokens.{after, tokens_from}
use Rattle.eb_rule_text.specs.declared.lexing.Found.TheVariants as found
use Rattle.eb_rule_text.proofs.TokenFacts.{step_at, after_one}
use Rattle.eb_rule_text.proofs.lexing.advance.Goals as goal

pub returns-in-Blank-clause-onward : goal.returns-in-Blank-clause-onward
returns-in-Blank-clause-onward c =
    let n = c.cut-sort.result.1 in
    let step = step_at c.args.rest.now c.args.at n found.Blank (search rules) (search rules) (search rules) (search rules) in
    ap (after c.args.lexed.now) (sym step)

pub returns-in_ok-keep-in-Token-clause-onward : goal.returns-in_ok-keep-in-Token-clause-onward
returns-in_ok-keep-in-Token-clause-onward c =
    let n = c.cut-sort.result.1 in
    let rest = tokens_from 0 (c.args.at + n) (drop n c.args.rest.now) in
    let step = step_at c.args.rest.now c.args.at n (found.Token c.in-Token.lexeme) (search rules) (search rules) (search rules) (search rules) in
    ap (λ d. after d rest) (search rules) ∙ after_one c.args.lexed.now c.args.at c.in-Token.lexeme rest ∙ ap (after c.args.lexed.now) (sym step)

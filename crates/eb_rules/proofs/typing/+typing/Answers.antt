use Rattle.std.proofs.Common.{rules, arith}
use Rattle.std.proofs.lemmas.Grind.{common_steps}
use Rattle.eb_rules.proofs.Chains.{chain_made, chain_stops}
use Rattle.eb_rules.proofs.typing.+typing.Goals as goal

pub typed-returns-in_err-made-in-Chain : goal.typed-returns-in_err-made-in-Chain
typed-returns-in_err-made-in-Chain t c =
    let first = rw c.get-in-Chain.ensures at c.in_ok-first-in-Chain.ensures in
    let stops = chain_stops _ _ _ _ _ _ _ _ c.in-Chain.is first (rw c.as_slice-in-Chain.ensures at c.in_err-made-in-Chain.ensures) in
    first_of (search rules, grind (arith, common_steps))

pub typed-returns-in_ok-made-in-Chain : goal.typed-returns-in_ok-made-in-Chain
typed-returns-in_ok-made-in-Chain t c =
    let first = rw c.get-in-Chain.ensures at c.in_ok-first-in-Chain.ensures in
    chain_made _ _ _ _ _ _ _ _ c.in-Chain.is first (rw c.as_slice-in-Chain.ensures at c.in_ok-made-in-Chain.ensures)

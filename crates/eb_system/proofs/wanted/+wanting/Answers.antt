use Rattle.eb_system.proofs.WantFacts.{behind_chain}
use Rattle.eb_system.proofs.wanted.+wanting.Goals as goal

pub term_wants-returns-in_ok-links_want-in-Chain : goal.term_wants-returns-in_ok-links_want-in-Chain
term_wants-returns-in_ok-links_want-in-Chain t c =
    rw c.in-Chain.is (behind_chain c.args.out.now c.term_wants-in-Chain.new.out c.links_want.new.out c.in-Chain.first c.get-in-Chain.result.now c.in-Chain.more c.as_slice-in-Chain.result.now c.get-in-Chain.ensures c.as_slice-in-Chain.ensures c.in_ok-term_wants-in-Chain.ensures c.in_ok-links_want-in-Chain.ensures)

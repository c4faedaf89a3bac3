-- is_one_of: what is left decides
use Rattle.std.proofs.Common.{◌≡◌, drop}
use Rattle.std.specs.Prelude.{bytes_eq}
use Rattle.std.specs.List.{list_any}
use Rattle.eb_base.proofs.words.is_one_of.Given as goal

abbrev pub invariant-loop-word : goal.invariant-loop-word
invariant-loop-word l = list_any (λ word. bytes_eq word.now l.text) (drop l.word-index l.words) ≡ list_any (λ word. bytes_eq word.now l.text) l.words

-- `words::beside`: the first entry of the word.
use Rattle.std.proofs.Common.{rules, tests, ◌∙◌}
use Rattle.std.proofs.lemmas.Iterator.{YieldsList-from_slice}
use Rattle.std.proofs.lemmas.Iterator.Search.{find_from_yields_List}
use Rattle.rules.specs.Lists.{same}
use Rattle.text.specs.Beside.{beside-some, beside-none}
use Rattle.text.proofs.words.beside.Goals as goal

pub returns : goal.returns
returns g c =
    let p = find_from_yields_List (λ e. same e.0.now c.args.word.now) _ _ c.find.result c.find.ensures.ran
    (YieldsList-from_slice _ c.iter.ensures.rest) (λ x b q k. search (rules, tests)) in
    beside-some _ c.in_ok-entry.entry.now _ (rw c.in_ok-entry.was at p)

pub returns-in_err-entry : goal.returns-in_err-entry
returns-in_err-entry g c =
    let p = find_from_yields_List (λ e. same e.0.now c.args.word.now) _ _ c.find.result c.find.ensures.ran
    (YieldsList-from_slice _ c.iter.ensures.rest) (λ x b q k. search (rules, tests)) in
    c.from_residual.ensures ∙ beside-none _ _ (rw c.in_err-entry.was at p)

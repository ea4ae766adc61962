-- `build_select`: FROM is refused, or all that follows is built over its stage.
use Rattle.std.proofs.lemmas.Result.{err_from_is_err_and}
use Rattle.build_select.specs.Sources.{source-room, source-stop, source-state, source-plans}
use Rattle.build_select.proofs.build_select.Goals as goal

pub build_from_clause-requires : goal.build_from_clause-requires
build_from_clause-requires c = source-room c.requires c.from_rows-rows.ensures

pub returns-in_err-source : goal.returns-in_err-source
returns-in_err-source c = let p = err_from_is_err_and c.from_residual.result c.from_residual.ensures.1 in rw (p.1, p.2)
    (source-stop c.requires c.from_rows-rows.ensures c.in_err-source.ensures)

pub select_items-requires : goal.select_items-requires
select_items-requires c = source-state c.requires c.from_rows-rows.ensures c.in_ok-source.ensures

pub returns : goal.returns
returns c = source-plans c.requires c.from_rows-rows.ensures c.in_ok-source.ensures (c.select_items.ensures (source-state c.requires c.from_rows-rows.ensures c.in_ok-source.ensures))

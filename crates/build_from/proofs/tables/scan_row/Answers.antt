-- `tables::scan_row`: the name and the alias, cut to their text.
use Rattle.build_from.specs.Tables.{scanned}
use Rattle.build_from.proofs.tables.scan_row.Goals as goal

pub returns : goal.returns
returns c = scanned c.name.ensures.address c.name.ensures.length c.clipped-name.ensures.address c.clipped-name.ensures.length c.alias.ensures
    c.clipped_option-alias.ensures c.scan.ensures

use Rattle.std.proofs.Common.{map}
use Rattle.findings_text.specs.Sources.{asides_in, ends_in, located, repeats_in}
use Rattle.findings_text.proofs.PrintLaws.{printed_from}
use Rattle.findings_text.proofs.print.print_from.Goals as goal

pub returns : goal.returns
returns c =
    let source = c.args.source in
    let found = c.in_ok-found.found in
    printed_from (asides_in source) (repeats_in source) (ends_in source) (located source c.args.text.now) c.args.file.now c.args.text.now found.rows (map (λ name. name.now) found.names) c.in_ok-found.ensures.found
    found.kept c.in_ok-found.ensures.alone c.print_found.result c.print_found.ensures.lines c.print_found.ensures.outcome

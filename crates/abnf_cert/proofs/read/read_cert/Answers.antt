use Rattle.std.proofs.Common.{◌≡◌, List}
use Rattle.std.proofs.lemmas.Result.{IfOk-weaker}
use Rattle.abnf_cert.specs.Read.{IsOf64Bits}
use Rattle.abnf_cert.specs.Text.{cert_text}
use Rattle.abnf_cert.specs.declared.entry.Entry.{Entry}
use Rattle.abnf_cert.proofs.Again.{first_found, only_by}
use Rattle.abnf_cert.proofs.read.read_cert.Goals as goal

pub returns-clause-only : goal.returns-clause-only
returns-clause-only c = λ es wide is. only_by c.read_lines.result c.args.bytes.now c.read_lines.ensures.found c.read_lines.ensures.fault es wide.0 wide.1 is

pub returns-clause-found : goal.returns-clause-found
returns-clause-found c = IfOk-weaker c.read_lines.result _ (λ (es : List Entry). IsOf64Bits es × (c.args.bytes.now ≡ cert_text es)) (λ es found. ((found.0, found.1), found.2)) c.read_lines.ensures.found

pub returns-clause-first : goal.returns-clause-first
returns-clause-first c = first_found c.read_lines.result c.args.bytes.now c.read_lines.ensures.found c.read_lines.ensures.fault

use Rattle.std.proofs.Common.{◌∙◌, encode_utf8_all, string_bytes, ap, sym}
use Rattle.std.proofs.lemmas.List.{map-id}
use Rattle.std.proofs.lemmas.Iterator.{YieldsList-from_chars}
use Rattle.std.proofs.lemmas.Iterator.Consumers.{YieldsList-end}
use Rattle.draft_grammars.specs.Insertions.{with_crlf}
use Rattle.draft_grammars.proofs.InsertionLaws.{crlf_pushed}
use Rattle.draft_grammars.proofs.insertion.with_crlf.Goals as goal

pub loop-c-preserved : goal.loop-c-preserved
loop-c-preserved c =
    crlf_pushed (string_bytes c.loop-c.made) (string_bytes c.push_end.new.to) c.loop-c.yielded c.in-Some.c c.in_ok-push_end.ensures c.loop-c.invariant

pub returns : goal.returns
returns c =
    let t = YieldsList-end (YieldsList-from_chars c.args.text.now c.utf8.text cc) c.loop-c.yielded _ c.loop-c.yielded_by _ _ c.in-None.is c.next.ensures.steps in
    c.loop-c.invariant ∙ ap (λ cs. encode_utf8_all (with_crlf cs)) (sym (map-id c.loop-c.yielded) ∙ t.0)

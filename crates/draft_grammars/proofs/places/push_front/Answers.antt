use Rattle.std.proofs.Common.{◌∙◌, ◌++◌, encode_utf8_all, string_bytes, ap, sym}
use Rattle.std.proofs.lemmas.List.{map-id}
use Rattle.std.proofs.lemmas.Iterator.{YieldsList-from_chars, YieldsList-from_take}
use Rattle.std.proofs.lemmas.Iterator.Consumers.{YieldsList-end}
use Rattle.draft_grammars.proofs.CarryLaws.{pushed}
use Rattle.draft_grammars.proofs.places.push_front.Goals as goal

pub loop-c-preserved : goal.loop-c-preserved
loop-c-preserved c =
    pushed (string_bytes c.args.to.now) (string_bytes c.loop-c.to) (string_bytes c.push.new.self) c.loop-c.yielded c.in-Some.c c.in_ok-push.ensures.bytes c.loop-c.invariant

pub returns : goal.returns
returns c =
    let t = YieldsList-end (YieldsList-from_take c.args.count (YieldsList-from_chars c.args.line.now c.utf8.line cc) cc) c.loop-c.yielded _ c.loop-c.yielded_by _ _ c.in-None.is c.next.ensures.steps in
    c.loop-c.invariant ∙ ap (λ cs. string_bytes c.args.to.now ++ encode_utf8_all cs) (sym (map-id c.loop-c.yielded) ∙ t.0)

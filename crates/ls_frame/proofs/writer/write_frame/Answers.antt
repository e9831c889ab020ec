use Rattle.std.proofs.Common.{rules, ◌≡◌, ◌++◌, ◌∙◌, ap, append_assoc}
use Rattle.ls_frame.proofs.Feeding.{grown}
use Rattle.ls_frame.proofs.writer.write_frame.Goals as goal

pub returns : goal.returns
returns c =
    let first : c.extend_from_slice.new.self.items ≡ c.args.out.now.items ++ c.as_bytes.result.now =
    grown c.args.out.now.items c.as_bytes.result.now c.extend_from_slice.new.self.items _ c.extend_from_slice.ensures.items (search rules) in
    let second : c.extend_from_slice-2.new.self.items ≡ c.extend_from_slice.new.self.items ++ c.args.body.now =
    grown c.extend_from_slice.new.self.items c.args.body.now c.extend_from_slice-2.new.self.items _ c.extend_from_slice-2.ensures.items (search rules) in
    second ∙ (ap (λ l. l ++ c.args.body.now) (first ∙ ap (λ l. c.args.out.now.items ++ l) (c.as_bytes.ensures.value ∙ c.in-Ok.ensures.ok)) ∙ simp append_assoc)

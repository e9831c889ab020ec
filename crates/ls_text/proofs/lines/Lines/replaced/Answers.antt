use Rattle.std.proofs.Common.{◌≡◌, ◌+◌, ◌-◌, ◌++◌, ◌∙◌, ◌<◌, ◌≤◌, ap, sym, subst, arith, take, drop, length, List}
use Rattle.std.specs.List.{flat_map}
use Rattle.std.proofs.lemmas.List.{take_rest}
use Rattle.std.proofs.lemmas.Result.{IfOk-weaker, IfErr-weaker}
use Rattle.ls_text.specs.own.Chunks.{lines_behind, byte_length}
use Rattle.ls_text.specs.Cut.{Row}
use Rattle.ls_text.specs.declared.fault.TextFault.TheVariants.{TooLarge}
use Rattle.ls_text.specs.declared.snapshot.TheConstants.{MAX_BYTES}
use Rattle.ls_text.proofs.ChunkLaws.{spine_place, spine_room, replaced_is, up_to_end}
use Rattle.ls_text.proofs.lines.Lines.replaced.Goals as goal

pub with_after-requires-clause-local : goal.with_after-requires-clause-local
with_after-requires-clause-local c =
    let within : c.args.to ≤ c.self.inside.count = omega (arith, c.requires.to, c.self.invariant.line_sums.total_is, ap length c.self.view_is) in
    subst (λ z. length (flat_map lines_behind (take c.start_before-last.result z)) + (c.args.to - c.index-2.result.now) ≤ length (flat_map lines_behind (take (c.start_before-last.result + 1) z))) (sym c.deref-5.ensures.value)
    (spine_room lines_behind _ _ _ _ _ _ c.self.invariant _ c.deref-2.ensures.value c.start_before-last.result c.args.to c.start_before-last.ensures.in_range c.start_before-last.ensures.starts c.start_before-last.ensures.last within c.index-2.result.now c.index-2.ensures)

-- the lines before the place
front_is : (c : goal.After-joined) → flat_map lines_behind (take c.front_of-front.result c.self.inside.chunks.items) ++ c.in_ok-lines.lines ≡ take c.args.from c.args.self.now
front_is c =
    ap (λ z. flat_map lines_behind (take c.front_of-front.result z) ++ c.in_ok-lines.lines) (sym c.deref-4.ensures.value)
    ∙ c.in_ok-lines.ensures
    ∙ ap (λ z. take (length (flat_map lines_behind (take c.start_before-first.result z)) + (c.args.from - c.index.result.now)) (flat_map lines_behind z)) c.deref-4.ensures.value
    ∙ (λ i. take (spine_place lines_behind _ _ _ _ _ _ c.self.invariant _ c.deref.ensures.value c.start_before-first.result c.args.from c.start_before-first.ensures.in_range c.start_before-first.ensures.starts c.index.result.now c.index.ensures i) (c.self.view_is i))

-- the lines after it
back_is : (c : goal.After-joined) → c.in_ok-lines-3.lines ++ flat_map lines_behind (drop c.back_of-back.result c.self.inside.chunks.items) ≡ c.in_ok-lines-2.lines ++ drop c.args.to c.args.self.now
back_is c =
    ap (λ z. c.in_ok-lines-3.lines ++ flat_map lines_behind (drop c.back_of-back.result z)) (sym c.deref-5.ensures.value)
    ∙ c.in_ok-lines-3.ensures
    ∙ ap (λ z. c.in_ok-lines-2.lines ++ drop (length (flat_map lines_behind (take c.start_before-last.result z)) + (c.args.to - c.index-2.result.now)) (flat_map lines_behind z)) c.deref-5.ensures.value
    ∙ (λ i. c.in_ok-lines-2.lines ++ drop (spine_place lines_behind _ _ _ _ _ _ c.self.invariant _ c.deref-2.ensures.value c.start_before-last.result c.args.to c.start_before-last.ensures.in_range c.start_before-last.ensures.starts c.index-2.result.now c.index-2.ensures i) (c.self.view_is i))

whole : (c : goal.After-joined) → flat_map lines_behind (take c.front_of-front.result c.deref-6.result.now) ++ c.in_ok-lines-3.lines ++ flat_map lines_behind (take (length c.deref-7.result.now - c.back_of-back.result) (drop c.back_of-back.result c.deref-7.result.now)) ≡ take c.args.from c.args.self.now ++ (c.args.new.now ++ drop c.args.to c.args.self.now)
whole c =
    (λ i. flat_map lines_behind (take c.front_of-front.result (c.deref-6.ensures.value i)) ++ c.in_ok-lines-3.lines ++ flat_map lines_behind ((take_rest c.deref-7.result.now c.back_of-back.result ∙ ap (drop c.back_of-back.result) c.deref-7.ensures.value) i))
    ∙ replaced_is _ _ _ _ _ _ _ _ (front_is c) (c.in_ok-lines-2.ensures ∙ ap (λ z. c.in_ok-lines.lines ++ z) (up_to_end 0 c.args.new.now c.len-4.result c.len-4.ensures)) (back_is c)

pub returns-clause-ok : goal.returns-clause-ok
returns-clause-ok c = IfOk-weaker c.joined.result _ (λ (lines : List Row). lines ≡ take c.args.from c.args.self.now ++ (c.args.new.now ++ drop c.args.to c.args.self.now)) (λ lines is. is ∙ whole c) c.joined.ensures.ok

pub returns-clause-too_large : goal.returns-clause-too_large
returns-clause-too_large c =
    IfErr-weaker c.joined.result _ (λ e. e ≡ TooLarge → MAX_BYTES < byte_length (take c.args.from c.args.self.now ++ (c.args.new.now ++ drop c.args.to c.args.self.now))) (λ e before is. omega (arith, before is, ap byte_length (whole c))) c.joined.ensures.too_large

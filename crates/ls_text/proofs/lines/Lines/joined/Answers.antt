use Rattle.std.proofs.Common.{◌≡◌, ◌<◌, ◌++◌, ◌∙◌, ap, sym, arith, List}
use Rattle.std.specs.List.{flat_map}
use Rattle.std.proofs.lemmas.Result.{err_from_is_err_and, IfOk-weaker, IfErr-weaker}
use Rattle.ls_text.specs.own.Chunks.{lines_behind, byte_length}
use Rattle.ls_text.specs.Cut.{Row}
use Rattle.ls_text.specs.declared.fault.TextFault.TheVariants.{TooLarge}
use Rattle.ls_text.specs.declared.snapshot.TheConstants.{MAX_BYTES}
use Rattle.ls_text.proofs.ChunkLaws.{byte_length_append}
use Rattle.ls_text.proofs.lines.Lines.joined.Goals as goal

pub returns-in_err-start-clause-too_large : goal.returns-in_err-start-clause-too_large
returns-in_err-start-clause-too_large c =
    let p = err_from_is_err_and c.from_residual-in_err-start.result c.from_residual-in_err-start.ensures.1 in
    rw p.1 (λ e. omega (
      arith,
      c.in_err-start.ensures.too_large (sym p.2 ∙ e),
      ap (λ z. byte_length (z ++ flat_map lines_behind c.args.front.now)) c.in_ok-with_room.ensures,
      byte_length_append (flat_map lines_behind c.args.front.now) (c.args.new),
      byte_length_append (flat_map lines_behind c.args.front.now ++ c.args.new) (flat_map lines_behind c.args.back.now),
    ))

pub returns-in_err-with_lines-clause-too_large : goal.returns-in_err-with_lines-clause-too_large
returns-in_err-with_lines-clause-too_large c =
    let p = err_from_is_err_and c.from_residual-in_err-with_lines.result c.from_residual-in_err-with_lines.ensures.1 in
    rw p.1 (λ e. omega (
      arith,
      c.in_err-with_lines.ensures.too_large (sym p.2 ∙ e),
      ap (λ z. byte_length (z ++ c.args.new)) (c.in_ok-start.ensures.ok ∙ ap (λ z. z ++ flat_map lines_behind c.args.front.now) c.in_ok-with_room.ensures),
      byte_length_append (flat_map lines_behind c.args.front.now ++ c.args.new) (flat_map lines_behind c.args.back.now),
    ))

whole : (c : goal.After-with_chunks-2) → c.in_ok-with_lines.field-0 ++ flat_map lines_behind c.args.back.now ≡ flat_map lines_behind c.args.front.now ++ c.args.new ++ flat_map lines_behind c.args.back.now
whole c =
    ap (λ z. z ++ flat_map lines_behind c.args.back.now) (c.in_ok-with_lines.ensures.ok ∙ ap (λ z. z ++ c.args.new) (c.in_ok-start.ensures.ok ∙ ap (λ z. z ++ flat_map lines_behind c.args.front.now) c.in_ok-with_room.ensures))

pub returns-clause-ok : goal.returns-clause-ok
returns-clause-ok c = IfOk-weaker c.with_chunks-2.result _ (λ (lines : List Row). lines ≡ flat_map lines_behind c.args.front.now ++ c.args.new ++ flat_map lines_behind c.args.back.now) (λ lines is. is ∙ whole c) c.with_chunks-2.ensures.ok

pub returns-clause-too_large : goal.returns-clause-too_large
returns-clause-too_large c =
    IfErr-weaker c.with_chunks-2.result _ (λ e. e ≡ TooLarge → MAX_BYTES < byte_length (flat_map lines_behind c.args.front.now ++ c.args.new ++ flat_map lines_behind c.args.back.now)) (λ e before is. omega (arith, before is, ap byte_length (whole c))) c.with_chunks-2.ensures.too_large

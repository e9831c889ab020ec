use Rattle.std.proofs.Common.{◌≡◌, sym, ◌∙◌, ap, length, rules}
use Rattle.ls_history.specs.History.{MayHappen, replay_entries}
use Rattle.ls_history.specs.Places.{beginning}
use Rattle.ls_history.proofs.Adding.{adds_moves}
use Rattle.ls_history.proofs.book.Front.try_add.Goals as goal

pub compare_exchange-found-requires : goal.compare_exchange-found-requires
compare_exchange-found-requires g c =
    let h = c.args.word.now.head_is in
    let offer = c.plain-offer.ensures in
    let pen = c.no_pen-pen.ensures in
    let inside = c.self.inside in
    let again = c.again-seen.ensures in
    let book : c.again-seen.result.book ≡ c.args.word.now.head.book = ap (λ s. s.book) again ∙ (c.self.invariant.1 ∙ sym (ap (λ w. w.book) h)) in
    let may : MayHappen (replay_entries beginning c.again-seen.result.log) c.plain-offer.result.ask = rw (ap (λ s. s.log) again, c.self.view_is, offer.1) c.requires.possible in (
      ap (λ w. w.tracked) h,
      book,
      pen.0 ∙ book,
      offer.0,
      rw (ap (λ w. w.key) h, pen.1, offer.3 ∙ c.requires.plain) (adds_moves c.again-seen.result.log c.plain-offer.result.ask inside.count (c.self.invariant.0 ∙ sym (ap (λ s. length s.log) again)) may),
    )

pub returns : goal.returns
returns = search rules depth 3

use Rattle.std.proofs.Common.{◌∙◌, refl, sym, ap, subst}
use Rattle.ls_desk.specs.Stands.{Seen}
use Rattle.ls_threads.specs.Writing.{HasTold}
use Rattle.ls_threads.specs.declared.ending.Wrote.TheVariants.{All, Failed, Memory}
use Rattle.ls_threads.proofs.Written.{told_more, told_none}
use Rattle.ls_threads.proofs.writing.write_rest.Goals as goal

pub replies-init : goal.replies-init
replies-init g c = record { good = c.requires; told = told_none _ _ _; flushed = λ e. e }

pub replies-preserved : goal.replies-preserved
replies-preserved g c = record {
  good = c.in-All.ensures.failed;
  told = told_more All c.args.desk.now c.replies.desk c.next_out.new.self (g.W.Sink.contents c.args.sink.now) (g.W.Sink.contents c.replies.sink) (g.W.Sink.contents c.put.new.sink) c.in-Some.out
      c.replies.invariant.told c.in-Some.ensures.some c.in-All.ensures.all c.in-All.ensures.front c.in-All.ensures.none;
  flushed = λ e. c.in-All.ensures.flushed (c.replies.invariant.flushed e) refl;
}

pub returns-clause-told : goal.returns-clause-told
returns-clause-told g c =
    subst (λ d. HasTold All c.args.desk.now d (g.W.Sink.contents c.args.sink.now) (g.W.Sink.contents c.replies.sink)) (sym c.in_default.ensures.none.1) c.replies.invariant.told

pub returns-clause-all : goal.returns-clause-all
returns-clause-all g c = λ e. ap (λ (d : Seen). d.outbox) c.in_default.ensures.none.1 ∙ c.in_default.ensures.none.0

pub returns-in-Failed-clause-told : goal.returns-in-Failed-clause-told
returns-in-Failed-clause-told g c = told_more Failed c.args.desk.now c.replies.desk c.next_out.new.self (g.W.Sink.contents c.args.sink.now) (g.W.Sink.contents c.replies.sink) (g.W.Sink.contents c.put.new.sink) c.in-Some.out
    c.replies.invariant.told c.in-Some.ensures.some c.in-Failed.ensures.all c.in-Failed.ensures.front c.in-Failed.ensures.none

pub returns-in-Memory-clause-told : goal.returns-in-Memory-clause-told
returns-in-Memory-clause-told g c = told_more Memory c.args.desk.now c.replies.desk c.next_out.new.self (g.W.Sink.contents c.args.sink.now) (g.W.Sink.contents c.replies.sink) (g.W.Sink.contents c.put.new.sink) c.in-Some.out
    c.replies.invariant.told c.in-Some.ensures.some c.in-Memory.ensures.all c.in-Memory.ensures.front c.in-Memory.ensures.none

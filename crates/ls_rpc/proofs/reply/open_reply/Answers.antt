use Rattle.std.proofs.lemmas.Result.{on_ok_weaker}
use Rattle.ls_rpc.proofs.reply.open_reply.Goals as goal

pub returns : goal.returns
returns g c =
    on_ok_weaker c.key-3.result (λ e. λ result last end sent ended.
    (_, c.in_ok-begin_map.ensures, (_, _, c.in_ok-key.ensures, c.in_ok-serialize.ensures, (_, _, c.in_ok-key-2.ensures, c.in_ok-str.ensures, (_, last, e, sent, ended))))) c.key-3.ensures

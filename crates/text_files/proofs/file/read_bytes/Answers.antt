use Rattle.std.proofs.Common.{rules, ◌≡◌, ◌≤◌, ◌+◌, ◌++◌, length, IfSome, option_map, take, subst}
use Rattle.text_files.proofs.Files.{take_known}
use Rattle.text_files.proofs.file.read_bytes.Goals as goal

pub returns-else-len-most-clause-all : goal.returns-else-len-most-clause-all
returns-else-len-most-clause-all g c =
    let limit = c.take.result.limit in
    let read = c.read_to_end.new.buf.items in
    let known : IfSome (option_map (take limit) (g.R.Read.remaining c.args.file)) (λ xs. read ≡ c.new-bytes.result.items ++ xs) =
    subst (λ f. IfSome (option_map (take limit) (g.R.Read.remaining f)) (λ xs. read ≡ c.new-bytes.result.items ++ xs)) c.take.ensures.inner c.in-Ok.ensures.bytes in
    let one : limit ≡ c.args.most + 1 = search rules in
    let few : length read ≤ c.args.most = search rules in
    take_known (g.R.Read.remaining c.args.file) limit c.args.most read c.new-bytes.result.items one c.new-bytes.ensures.items few known

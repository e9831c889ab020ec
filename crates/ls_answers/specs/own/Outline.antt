-- The symbol of a block, by its head and its last item. No public contract speaks of it.
use Rattle.std.specs.Prelude.{ℕ, List}
use Rattle.ls_text.specs.declared.position.Encoding.{Encoding}
use Rattle.abnf_syntax.specs.declared.ends.Headed.{Headed}
use Rattle.ls_answers.specs.Outline.{token_range}
use Rattle.ls_answers.specs.declared.answer.Symbol.{Symbol}

-- the symbol of a block, from the start of its head's name, which is its first item, to the end of its last item
abbrev pub headed_symbol : Encoding → List ℕ → Headed → Symbol
headed_symbol encoding text block =
    let name = token_range encoding text block.head.name in
    record { name = block.head.name.text.now; range = record { start = name.start; end = (token_range encoding text block.last).end }; name_range = name }

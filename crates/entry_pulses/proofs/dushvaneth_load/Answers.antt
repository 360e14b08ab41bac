-- A panel that passes is as long as its registers are many, and it is the panel of the buffer.
use mathlib.Core.Path.{◌∙◌}
use borrow.Author.Rules.{rules}
use Rattle.entry_pulses.proofs.Entries.{load_size, load_passed}
use Rattle.entry_pulses.proofs.dushvaneth_load.Goals as goal

pub store-requires : goal.store-requires
store-requires c = let a = c.args in load_size a.registers.now a.register a.value (search rules)

pub returns-in-Ok-clause-registers_after : goal.returns-in-Ok-clause-registers_after
returns-in-Ok-clause-registers_after c =
    let a = c.args in
    c.store.ensures ∙ c.load.ensures ∙ load_passed a.registers.now a.register a.value (search rules) _ c.panel_of.ensures

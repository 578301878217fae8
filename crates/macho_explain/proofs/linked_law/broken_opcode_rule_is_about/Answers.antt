use Rattle.macho_opcodes.specs.Images.{NoLibrary, NoName, NoSlot, TooMany, Undecoded}
use Rattle.macho_opcodes.specs.Streams.{pointers, LacksName, NamesNoLibrary, PassesBudget, WritesOutside}
use Rattle.macho_tables.specs.Limits.{budget_of, library_count, rooms_of}
use Rattle.macho_explain.specs.declared.stream.Asked.TheVariants as asked
use Rattle.macho_explain.proofs.LinkedStreams.{bind, bind_opcode, library, long_names, rebase, rebase_opcode}
use Rattle.macho_explain.proofs.linked_law.broken_opcode_rule_is_about.Goals as goal

pub returns-clause-rebase_opcode : goal.returns-clause-rebase_opcode
returns-clause-rebase_opcode c = λ keeps place broken. rebase_opcode c.args.image.now keeps Undecoded (λ of stream offset is. is) place broken

pub returns-clause-bind_opcode : goal.returns-clause-bind_opcode
returns-clause-bind_opcode c = λ keeps place broken. bind_opcode c.args.image.now keeps Undecoded (λ of stream offset is. is) place broken

pub returns-clause-rebase_slot : goal.returns-clause-rebase_slot
returns-clause-rebase_slot c = λ keeps place broken. rebase c.args.image.now keeps asked.Slot pointers (WritesOutside (rooms_of c.args.image.now)) (λ cursor n next has. tt) NoSlot (λ of stream offset is. is) place broken

pub returns-clause-rebase_total : goal.returns-clause-rebase_total
returns-clause-rebase_total c = λ keeps place broken. rebase c.args.image.now keeps asked.Total pointers (PassesBudget (budget_of c.args.image.now)) (λ cursor n next has. tt) TooMany (λ of stream offset is. is) place broken

pub returns-clause-bind_library : goal.returns-clause-bind_library
returns-clause-bind_library c = λ keeps place broken. bind c.args.image.now keeps asked.Library pointers (NamesNoLibrary (library_count c.args.image.now)) (library (library_count c.args.image.now)) NoLibrary (λ of stream offset is. is) place broken

pub returns-clause-bind_symbol : goal.returns-clause-bind_symbol
returns-clause-bind_symbol c = λ keeps place broken. bind c.args.image.now keeps asked.Symbol pointers (LacksName) (λ cursor n next has. tt) NoName (λ of stream offset is. is) place broken

pub returns-clause-bind_slot : goal.returns-clause-bind_slot
returns-clause-bind_slot c = λ keeps place broken. bind c.args.image.now keeps asked.Slot pointers (WritesOutside (rooms_of c.args.image.now)) (λ cursor n next has. tt) NoSlot (λ of stream offset is. is) place broken

pub returns-clause-bind_total : goal.returns-clause-bind_total
returns-clause-bind_total c = λ keeps place broken. bind c.args.image.now keeps asked.Total pointers (PassesBudget (budget_of c.args.image.now)) (λ cursor n next has. tt) TooMany (λ of stream offset is. is) place broken

pub returns-clause-bind_names : goal.returns-clause-bind_names
returns-clause-bind_names c = λ keeps place broken. long_names c.args.image.now keeps place broken

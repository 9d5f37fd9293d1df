-- The bytes of the memory, and the numbers of both lines.
use Rattle.simulator.proofs.Bytes.{of_stage}
use Rattle.simulator.proofs.Spelled.{numbers_in_columns}
use Rattle.simulator.proofs.simulator.Simulator.take.Goals as goal

pub returns-in_default-clause-memory : goal.returns-in_default-clause-memory
returns-in_default-clause-memory c = of_stage c.args.self.now.stage

pub returns-in_default-clause-numbers : goal.returns-in_default-clause-numbers
returns-in_default-clause-numbers c = numbers_in_columns

pub returns-clause-memory : goal.returns-clause-memory
returns-clause-memory c = of_stage c.answer-answer.new.self.stage

pub returns-clause-numbers : goal.returns-clause-numbers
returns-clause-numbers c = numbers_in_columns

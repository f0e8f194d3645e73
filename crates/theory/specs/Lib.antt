-- Theorems about the definitions, by subject.
-- Sums, lists, divisors, bits and shifts; searches that end.
pub mod Numbers
-- Edges, paths and sets of states: what is decided and counted of a chain.
pub mod Chains
-- The equations: that each figure is there, and is one.
pub mod Figures
-- What a row says of its columns, in lowest terms, rounded, settled, and left alone.
pub mod Rows
-- The table, from the first rows to the last: what each step keeps, and what the last row says.
pub mod Stages
-- From a well-formed input to the answer: every entry has one outcome, and what it is held to.
pub mod Outcomes
-- Chain files, the report, the step list and the calls from C: one outcome each; what damage to a file meets; and the cases worked by hand, of chains and of files.
pub mod Files
-- Planning copies: the chain of a plan is well formed, and the planner's answer is one.
pub mod Plans
-- Within so many retries: the rounded rounds beside the true ones, the true ones beside the chance, and that the answer is one.
pub mod Rounds
-- Checking a colleague's solver: a table is the chance at every state exactly where no state is broken, and the verdict is one.
pub mod Judging
-- Limits: a word says one limit, a verdict holds, and what is said of a chain file and a limit is one.
pub mod Limits
-- The text form of chain files: a text is of at most one chain with its tables, and what is read from a text is one.
pub mod Texts

-- What a reader has to believe, in the order of document 01. Definitions alone.

-- Words for whole numbers, sums, bits and lists.
pub mod Number
-- "The chain": limits, states, edges, paths; which states are live.
pub mod Chain
-- "What the figures mean": the chance and the expected reward.
pub mod Figure
-- "A step": the columns of a row, its lowest terms, its rounding.
pub mod Row
-- "A step": the first rows, the removal of a state, the table after each position of the order.
pub mod Step
-- "Numbers of refusal": what an entry is lent; 1 to 11, each with its place.
pub mod Refusal
-- "Numbers of refusal": 12, which stops an elimination.
pub mod Stop
-- "Numbers of refusal": what each entry answers, and its work table then.
pub mod Outcome
-- The step list of request 2: what is said of each state that the exact engine removes.
pub mod Steps
-- The survey: which states have a path to an end, which are live, whether a state is reached that has none, and the counts that the report prints.
pub mod Survey
-- "Chain files": where each field of a block lies, and the check.
pub mod Block
-- "Chain files": 20 to 24, and the tables of an accepted file.
pub mod File
-- The step list of a chain file.
pub mod FileSteps
-- What is answered where bytes are written into a lent buffer.
pub mod Buffer
-- The writer of chain files.
pub mod Write
-- "Chain files": the call from C.
pub mod Call
-- "The report": numbers as text; and what a word is read as.
pub mod Text
-- "The report": the lines, and what a program's text is.
pub mod Report
-- "Chains worked by hand": those marked P, in one list with one claim.
pub mod Cases
-- The words of demands 2 and 3, and of the D that is never zero.
pub mod Demand
-- The requests that came after: planning copies.
pub mod Copies
-- The requests that came after: choosing an order, and a chain file with the chosen order.
pub mod Choice
pub mod Reorder
-- Chains that are nearly a line: what their order is to have, and the sum that has a limit then.
pub mod Line
-- The chance within so many retries.
pub mod Within
-- Checking a colleague's solver.
pub mod Judge
-- Saving what is left of a damaged file: the chain whose rows may fall short.
pub mod Left
-- Saving what is left of a damaged file: lost blocks, the salvaging reader, the text.
pub mod Salvage
-- The chance nearly: an elimination with the highest 31 digits of each weight.
pub mod Near
-- The chance of missing every goal, nearly.
pub mod Miss
-- Near chances as they are printed.
pub mod NearText
-- Near chances of a chain file, from its own start or from another state.
pub mod FileNear
-- A limit for a chance, and the word that says one.
pub mod Limit
-- The verdict on a chain file: is its chance within a limit?
pub mod FileLimit
-- Near chances of a plan, and the table of all numbers of copies.
pub mod PlanTable
-- The fewest copies that keep a limit.
pub mod Fewest
-- The text form of chain files.
pub mod ChainText
-- The text form of chain files: what is shown, and what is made.
pub mod Translate

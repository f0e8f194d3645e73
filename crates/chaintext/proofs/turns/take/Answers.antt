use Rattle.chaintext.proofs.Turning.{as_turn}
use Rattle.chaintext.proofs.Adding.{edge_none}
use Rattle.chaintext.proofs.turns.take.Goals as goal

pub returns-in-States : goal.returns-in-States
returns-in-States c = as_turn c.in-States.is c.requires (c.states.ensures _)

pub returns-in-Edges : goal.returns-in-Edges
returns-in-Edges c = as_turn c.in-Edges.is c.requires (c.edges.ensures _)

pub returns-in-Start : goal.returns-in-Start
returns-in-Start c = as_turn c.in-Start.is c.requires (c.start.ensures _)

pub returns-in-Edge : goal.returns-in-Edge
returns-in-Edge c = as_turn c.in-Edge.is c.requires (c.edge.ensures _ _ _)

pub returns-in-Edge-2 : goal.returns-in-Edge-2
returns-in-Edge-2 c = as_turn c.in-Edge.is c.requires (λ r. edge_none r c.if-e-held.false)

use Rattle.std.proofs.Common.{◌∙◌, arith}
use Rattle.chunk_reader.proofs.GoLaws.{goes}
use Rattle.chunk_reader.proofs.way.Way.go_to.Goals as goal

pub descend-requires-clause-tree : goal.descend-requires-clause-tree
descend-requires-clause-tree c = (goes c.args.self.now c.rise-start.new.self c.args.place _ _ c.requires.tree c.requires.on c.requires.within c.rise-start.ensures).tree

pub descend-requires-clause-from : goal.descend-requires-clause-from
descend-requires-clause-from c = (goes c.args.self.now c.rise-start.new.self c.args.place _ _ c.requires.tree c.requires.on c.requires.within c.rise-start.ensures).from

pub descend-requires-clause-within : goal.descend-requires-clause-within
descend-requires-clause-within c = (goes c.args.self.now c.rise-start.new.self c.args.place _ _ c.requires.tree c.requires.on c.requires.within c.rise-start.ensures).within

pub descend-requires-clause-room : goal.descend-requires-clause-room
descend-requires-clause-room c = omega (arith, c.requires.low, (goes c.args.self.now c.rise-start.new.self c.args.place _ _ c.requires.tree c.requires.on c.requires.within c.rise-start.ensures).few)

pub returns-clause-way : goal.returns-clause-way
returns-clause-way c = c.descend.ensures.way ∙ (goes c.args.self.now c.rise-start.new.self c.args.place _ _ c.requires.tree c.requires.on c.requires.within c.rise-start.ensures).way

pub returns-clause-rest : goal.returns-clause-rest
returns-clause-rest c = c.descend.ensures.rest ∙ (goes c.args.self.now c.rise-start.new.self c.args.place _ _ c.requires.tree c.requires.on c.requires.within c.rise-start.ensures).rest

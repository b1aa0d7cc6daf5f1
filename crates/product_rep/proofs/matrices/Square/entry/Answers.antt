use Rattle.product_rep.proofs.matrices.Square.entry.Goals as goal

pub bounds-self-self : goal.bounds-self-self
bounds-self-self c = c.args.self.now.block.places c.args.i c.args.k c.requires.row c.requires.column

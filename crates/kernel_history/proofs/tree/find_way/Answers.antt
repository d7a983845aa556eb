use Rattle.kernel_history.proofs.Nodes.{way_found, path_found}
use Rattle.kernel_history.proofs.tree.find_way.Goals as goal

pub returns-clause-way : goal.returns-clause-way
returns-clause-way c = way_found c.args.tree.now c.find_way.new.self c.args.target c.find_way.result c.find_way.ensures.way c.find_way.ensures.kept

pub returns-clause-path : goal.returns-clause-path
returns-clause-path c = path_found c.args.tree.now c.find_way.new.self c.args.target c.find_way.result c.find_way.ensures.kept

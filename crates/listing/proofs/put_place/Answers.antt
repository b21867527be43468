-- Each arm lays the name of its place, and the byte.
-- Assumes nothing.
use Rattle.listing.proofs.put_place.Goals as goal

pub returns-in-Leaf : goal.returns-in-Leaf
returns-in-Leaf c = rw c.in-Leaf.is c.put_word.ensures

pub returns-in-Prologue : goal.returns-in-Prologue
returns-in-Prologue c = rw c.in-Prologue.is c.put_word-in-Prologue.ensures

pub returns-in-Body : goal.returns-in-Body
returns-in-Body c = rw c.in-Body.is c.put_word-in-Body.ensures

pub returns-in-Epilogue : goal.returns-in-Epilogue
returns-in-Epilogue c = rw c.in-Epilogue.is c.put_word-in-Epilogue.ensures

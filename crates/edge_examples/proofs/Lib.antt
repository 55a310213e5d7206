mod ClassExamples
mod ListExamples
mod LookupEdges
mod StaticLaws
mod StopEdges
mod TableEdges
mod Words
